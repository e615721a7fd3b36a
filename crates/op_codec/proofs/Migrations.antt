-- Files that are migrated, and how long the two versions of one file are.
use Rattle.std.proofs.Common.{◌≡◌, ℕ, ◌+◌, ◌≤◌, true, false, cond, List, [], ◌∷◌, ◌++◌, length, None, refl, sym, ap, subst, ◌∙◌, arith}
use Rattle.std.specs.Prelude.{◌↔◌}
use Rattle.std.specs.List.{flat_map}
use Rattle.std.proofs.lemmas.List.{length-append}
use Rattle.std.proofs.lemmas.List.Concat.{flat_map-cons}
use Rattle.bg_types.specs.declared.op.OpView.{OpView}
use Rattle.bg_types.specs.declared.op.OpView.TheVariants.{Insert, Erase}
use Rattle.op_codec.specs.declared.position.Version.TheVariants.{One, Two}
use Rattle.op_codec.specs.Spelling.{Frame, frame, frame_bytes, last_id, joins, tip, grown, gathered, spelling_in, Spells, SpellsIn}
use Rattle.op_codec.specs.Migration.{IsMigration, AreApart}
use Rattle.op_codec.proofs.Gathered.{alone, spelling_one}
use Rattle.op_codec.proofs.Gathers.{no_erasure}
use Rattle.op_codec.proofs.Written.{length-frame_bytes}
use Rattle.op_codec.proofs.Unique.{one_list}

-- ---- the same operations

in_two : (file : List ℕ) (ops : List OpView) → SpellsIn Two file ops → Spells file ops
in_two file ops spelled = record { version = Two; spelled = spelled }

pub same_ops : (file migrated : List ℕ) (ops : List OpView) → IsMigration file migrated → Spells file ops ↔ Spells migrated ops
same_ops file migrated ops m = (
  (λ spelled. subst (λ (xs : List OpView). Spells migrated xs) (one_list file m.ops ops m.from spelled) (in_two migrated m.ops m.to)),
  (λ spelled. subst (λ (xs : List OpView). Spells file xs) (one_list migrated m.ops ops (in_two migrated m.ops m.to) spelled) m.from),
)

pub one_migration : (file a b : List ℕ) → IsMigration file a → IsMigration file b → a ≡ b
one_migration file a b m n = m.to.bytes ∙ ap (λ (xs : List OpView). spelling_in Two xs) (one_list file m.ops n.ops m.from n.from) ∙ sym n.to.bytes

pub migrated_itself : (file : List ℕ) (ops : List OpView) → SpellsIn Two file ops → IsMigration file file
migrated_itself file ops spelled = record { ops = ops; from = in_two file ops spelled; to = spelled }

pub migrated_again : (file migrated : List ℕ) → IsMigration file migrated → IsMigration migrated migrated
migrated_again file migrated m = migrated_itself migrated m.ops m.to

pub some_migration : (file : List ℕ) (ops : List OpView) → Spells file ops → (migrated : List ℕ) × IsMigration file migrated
some_migration file ops spelled = (spelling_in Two ops, record { ops = ops; from = spelled; to = record { bytes = refl; well_formed = spelled.spelled.well_formed } })

-- ---- how long version 2 is

abbrev bytes_of : List Frame → ℕ
bytes_of frames = length (flat_map frame_bytes frames)

length-frames : (f : Frame) (frames : List Frame) → bytes_of (f ∷ frames) ≡ length (frame_bytes f) + bytes_of frames
length-frames f frames = ap (λ (s : List ℕ). length s) (flat_map-cons frame_bytes f frames) ∙ length-append (frame_bytes f) (flat_map frame_bytes frames)

length-ops : (op : OpView) (ops : List OpView) → length (flat_map frame (op ∷ ops)) ≡ length (frame op) + length (flat_map frame ops)
length-ops op ops = ap (λ (s : List ℕ). length s) (flat_map-cons frame op ops) ∙ length-append (frame op) (flat_map frame ops)

-- an insertion that joins takes four bytes, and 19 alone
length-grown : (f : Frame) (op : OpView) → joins (tip 1024 f) op ≡ true → length (frame_bytes (grown f op)) + 15 ≡ length (frame_bytes f) + length (frame op)
length-grown f (Insert id p c) e = omega (arith, length-frame_bytes f.first (f.further ++ c ∷ []), length-frame_bytes f.first f.further, length-append f.further (c ∷ []))
length-grown f (Erase t) e = absurd (no_erasure (tip 1024 f) t e)

length-gathered : (f : Frame) (ops : List OpView) → bytes_of (gathered 1024 f ops) ≤ length (frame_bytes f) + length (flat_map frame ops)
length-gathered f [] = omega (arith, length-frames f [])
length-gathered f (op ∷ ops) =
    (elim (joins (tip 1024 f) op) as (λ b. joins (tip 1024 f) op ≡ b → bytes_of (cond b (gathered 1024 (grown f op) ops) (f ∷ gathered 1024 (alone op) ops)) ≤ length (frame_bytes f) + length (flat_map frame (op ∷ ops))) [
      | true ↦ λ e. omega (arith, length-gathered (grown f op) ops, length-grown f op e, length-ops op ops)
      | false ↦ λ e. omega (arith, length-gathered (alone op) ops, length-frames f (gathered 1024 (alone op) ops), length-ops op ops)
    ]) refl

length-one : (ops : List OpView) → length (spelling_in One ops) ≡ 5 + length (flat_map frame ops)
length-one ops = ap (λ (s : List ℕ). length s) (spelling_one ops) ∙ omega arith

pub two_no_longer : (ops : List OpView) → length (spelling_in Two ops) ≤ length (spelling_in One ops)
two_no_longer [] = omega arith
two_no_longer (op ∷ ops) = omega (arith, length-gathered (alone op) ops, length-one (op ∷ ops), length-ops op ops)

pub migrated_no_longer : (file migrated : List ℕ) → IsMigration file migrated → length migrated ≤ length file
migrated_no_longer file migrated m =
    let new = ap (λ (s : List ℕ). length s) m.to.bytes in
    let old = ap (λ (s : List ℕ). length s) m.from.spelled.bytes in
    (elim m.from.version as (λ v. length file ≡ length (spelling_in v m.ops) → length migrated ≤ length file) [
      | One ↦ λ e. omega (arith, new, e, two_no_longer m.ops)
      | Two ↦ λ e. omega (arith, new, e)
    ]) old

-- ---- where it is as long

apart_alone : (op : OpView) (ops : List OpView) → AreApart (last_id op []) ops → bytes_of (gathered 1024 (alone op) ops) ≡ length (frame op) + length (flat_map frame ops)
apart_alone op [] apart = length-frames (alone op) []
apart_alone op (o ∷ ops) apart =
    (λ i. bytes_of (cond (apart.0 i) (gathered 1024 (grown (alone op) o) ops) (alone op ∷ gathered 1024 (alone o) ops)))
    ∙ length-frames (alone op) (gathered 1024 (alone o) ops) ∙ omega (arith, apart_alone o ops apart.1, length-ops o ops)

alone_apart : (op : OpView) (ops : List OpView) → bytes_of (gathered 1024 (alone op) ops) ≡ length (frame op) + length (flat_map frame ops) → AreApart (last_id op []) ops
alone_apart op [] same = tt
alone_apart op (o ∷ ops) same =
    (elim (joins (last_id op []) o) as (λ b. joins (last_id op []) o ≡ b → bytes_of (cond b (gathered 1024 (grown (alone op) o) ops) (alone op ∷ gathered 1024 (alone o) ops)) ≡ length (frame op) + length (flat_map frame (o ∷ ops))
    → (joins (last_id op []) o ≡ false) × AreApart (last_id o []) ops) [
      | true ↦ λ e long. absurd (omega (arith, long, length-gathered (grown (alone op) o) ops, length-grown (alone op) o e, length-ops o ops))
      | false ↦ λ e long. (e, alone_apart o ops (omega (arith, long, length-frames (alone op) (gathered 1024 (alone o) ops), length-ops o ops)))
    ]) refl same

apart_as_long : (ops : List OpView) → AreApart None ops → length (spelling_in Two ops) ≡ length (spelling_in One ops)
apart_as_long [] apart = refl
apart_as_long (op ∷ ops) apart = omega (arith, apart_alone op ops apart.1, length-one (op ∷ ops), length-ops op ops)

as_long_apart : (ops : List OpView) → length (spelling_in Two ops) ≡ length (spelling_in One ops) → AreApart None ops
as_long_apart [] same = tt
as_long_apart (op ∷ ops) same = (refl, alone_apart op ops (omega (arith, same, length-one (op ∷ ops), length-ops op ops)))

pub two_as_long : (ops : List OpView) → (length (spelling_in Two ops) ≡ length (spelling_in One ops)) ↔ AreApart None ops
two_as_long ops = (as_long_apart ops, apart_as_long ops)
