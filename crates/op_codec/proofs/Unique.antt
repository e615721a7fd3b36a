-- Bytes spell at most one list, show at most one first fault, and never do both.
use Rattle.std.proofs.Common.{◌≡◌, ℕ, ◌+◌, ◌≤◌, false, List, [], ◌∷◌, ◌++◌, length, slice_index, drop, Option, Some, None, refl, sym, ap, subst, ◌∙◌, append_assoc, arith, inl, inr}
use Rattle.std.specs.List.{flat_map, AllByRecursion}
use Rattle.std.proofs.lemmas.List.{append-nil}
use Rattle.std.proofs.lemmas.List.Concat.{flat_map-cons}
use Rattle.bg_types.specs.Identifier.{Identifier}
use Rattle.bg_types.specs.WellFormed.{IsWellFormed}
use Rattle.bg_types.specs.declared.op.OpView.{OpView}
use Rattle.bg_types.specs.declared.op.OpView.TheVariants.{Insert, Erase}
use Rattle.op_codec.specs.declared.fault.Cause.{Cause}
use Rattle.op_codec.specs.declared.position.Version.{Version}
use Rattle.op_codec.specs.declared.position.Version.TheVariants.{One, Two}
use Rattle.op_codec.specs.Spelling.{Frame, bytes_with, frame_bytes, frame_ops, header, joins, tip, last_tip, tip_of, frames_of, most_insertions, spelling_in, SpellsIn, Spells}
use Rattle.op_codec.specs.Frames.{IsFrame, AreFrames}
use Rattle.op_codec.specs.Fault.{header_cause, cause_at, IsFault}
use Rattle.op_codec.proofs.ReadBack.{frame_unique}
use Rattle.op_codec.proofs.Faultless.{header_cause-header, cause_at-frame}
use Rattle.op_codec.proofs.Gathered.{frames_are, frames_ops}

-- no frame that joins nothing begins the bytes
abbrev pub Ends : ℕ → Option Identifier → List ℕ → Type 0
Ends most before bytes = (f : Frame) (rest : List ℕ) → IsFrame most f → joins before f.first ≡ false → bytes ≡ frame_bytes f ++ rest → ⊥

no_bytes : (first : OpView) (further rest : List ℕ) → [] ≡ bytes_with first further ++ rest → ⊥
no_bytes (Insert i p c) [] rest e = cc
no_bytes (Erase t) [] rest e = cc
no_bytes first (c ∷ cs) rest e = cc

pub Ends-nil : (most : ℕ) (before : Option Identifier) → Ends most before []
Ends-nil most before f rest is free e = no_bytes f.first f.further rest e

pub Ends-fault : (version : Version) (before : Option Identifier) (bytes : List ℕ) (cause : Cause) → cause_at version before bytes ≡ Some cause → Ends (most_insertions version) before bytes
Ends-fault version before bytes cause fault f rest is free e =
    let none : cause_at version before bytes ≡ None = ap (cause_at version before) e ∙ cause_at-frame version before f rest is free in
    absurd cc

pub some_most : (version : Version) → 1 ≤ most_insertions version
some_most One = omega arith
some_most Two = omega arith

pub few_most : (version : Version) → most_insertions version ≤ 1024
few_most One = omega arith
few_most Two = omega arith

more_frames : (f : Frame) (frames : List Frame) (x : List ℕ) → flat_map frame_bytes (f ∷ frames) ++ x ≡ frame_bytes f ++ (flat_map frame_bytes frames ++ x)
more_frames f frames x = ap (λ (s : List ℕ). s ++ x) (flat_map-cons frame_bytes f frames) ∙ append_assoc (frame_bytes f) (flat_map frame_bytes frames) x

-- two readings of the same bytes as frames, up to where no frame begins
frames_unique : (most : ℕ) (before : Option Identifier) (xs ys : List Frame) (x y : List ℕ) → most ≤ 1024 → AreFrames most before xs → AreFrames most before ys
    → Ends most (last_tip most before xs) x → Ends most (last_tip most before ys) y → flat_map frame_bytes xs ++ x ≡ flat_map frame_bytes ys ++ y → (xs ≡ ys) × (x ≡ y)
frames_unique most before [] [] x y small p q ends ends' e = (refl, e)
frames_unique most before [] (b ∷ ys) x y small p q ends ends' e = absurd (ends b (flat_map frame_bytes ys ++ y) q.0 q.1 (e ∙ more_frames b ys y))
frames_unique most before (a ∷ xs) [] x y small p q ends ends' e = absurd (ends' a (flat_map frame_bytes xs ++ x) p.0 p.1 (sym e ∙ more_frames a xs x))
frames_unique most before (a ∷ xs) (b ∷ ys) x y small p q ends ends' e =
    let whole = sym (more_frames a xs x) ∙ e ∙ more_frames b ys y in
    let first = frame_unique most a b _ _ small p.0 q.0 whole in
    let here : AreFrames most (tip most b) xs = subst (λ (f : Frame). AreFrames most (tip most f) xs) first.0 p.2 in
    let end : Ends most (last_tip most (tip most b) xs) x = subst (λ (f : Frame). Ends most (last_tip most (tip most f) xs) x) first.0 ends in
    let others = frames_unique most (tip most b) xs ys x y small here q.2 end ends' first.1 in
    ((λ k. first.0 k ∷ others.0 k), others.1)

-- the header is five bytes
pub after_header : (version : Version) (x y : List ℕ) → header version ++ x ≡ header version ++ y → x ≡ y
after_header version x y e = ap (drop 5) e

pub same_version : (v w : Version) (x y : List ℕ) → header v ++ x ≡ header w ++ y → v ≡ w
same_version One One x y e = refl
same_version Two Two x y e = refl
same_version One Two x y e = absurd (omega (arith, ap (λ (s : List ℕ). slice_index s 4) e))
same_version Two One x y e = absurd (omega (arith, ap (λ (s : List ℕ). slice_index s 4) e))

-- what a list of operations and what follows its frames are
pub ops_unique : (version : Version) (xs ys : List OpView) (x y : List ℕ) → AllByRecursion IsWellFormed xs → AllByRecursion IsWellFormed ys
    → Ends (most_insertions version) (tip_of (most_insertions version) xs) x → Ends (most_insertions version) (tip_of (most_insertions version) ys) y
    → spelling_in version xs ++ x ≡ spelling_in version ys ++ y → (xs ≡ ys) × (x ≡ y)
ops_unique version xs ys x y p q ends ends' e =
    let most = most_insertions version in
    let some = some_most version in
    let same = frames_unique most None (frames_of most xs) (frames_of most ys) x y (few_most version) (frames_are most xs some p) (frames_are most ys some q) ends ends'
    (after_header version (flat_map frame_bytes (frames_of most xs) ++ x) (flat_map frame_bytes (frames_of most ys) ++ y) e) in
    (sym (frames_ops most xs some p) ∙ ap (λ (fs : List Frame). flat_map frame_ops fs) same.0 ∙ frames_ops most ys some q, same.1)

-- bytes of two versions are not the same
pub versions_unique : (v w : Version) (xs ys : List OpView) (x y : List ℕ) → spelling_in v xs ++ x ≡ spelling_in w ys ++ y → v ≡ w
versions_unique v w xs ys x y e = same_version v w (flat_map frame_bytes (frames_of (most_insertions v) xs) ++ x) (flat_map frame_bytes (frames_of (most_insertions w) ys) ++ y) e

pub one_list_in : (v w : Version) (bytes : List ℕ) (xs ys : List OpView) → SpellsIn v bytes xs → SpellsIn w bytes ys → xs ≡ ys
one_list_in v w bytes xs ys p q =
    let e : spelling_in v xs ++ [] ≡ spelling_in w ys ++ [] = append-nil (spelling_in v xs) ∙ sym p.bytes ∙ q.bytes ∙ sym (append-nil (spelling_in w ys)) in
    let version = versions_unique v w xs ys [] [] e in
    let e' : spelling_in w xs ++ [] ≡ spelling_in w ys ++ [] = ap (λ (u : Version). spelling_in u xs ++ []) (sym version) ∙ e in
    (ops_unique w xs ys [] [] p.well_formed q.well_formed (Ends-nil _ _) (Ends-nil _ _) e').0

pub one_list : (bytes : List ℕ) (xs ys : List OpView) → Spells bytes xs → Spells bytes ys → xs ≡ ys
one_list bytes xs ys p q = one_list_in p.version q.version bytes xs ys p.spelled q.spelled

-- what begins with the header has no fault in it
pub header_right : (version : Version) (bytes rest : List ℕ) (cause : Cause) → bytes ≡ header version ++ rest → header_cause bytes ≡ Some cause → ⊥
header_right version bytes rest cause begins shown =
    let none : header_cause bytes ≡ None = ap header_cause begins ∙ header_cause-header version rest in
    absurd cc

pub spelling_right : (version : Version) (bytes rest : List ℕ) (ops : List OpView) (cause : Cause) → bytes ≡ spelling_in version ops ++ rest → header_cause bytes ≡ Some cause → ⊥
spelling_right version bytes rest ops cause begins shown = header_right version bytes (flat_map frame_bytes (frames_of (most_insertions version) ops) ++ rest) cause begins shown

pub never_both : (bytes : List ℕ) (ops : List OpView) (n : ℕ) (cause : Cause) → Spells bytes ops → IsFault bytes n cause → ⊥
never_both bytes ops n cause p (inl h) = header_right p.version bytes (flat_map frame_bytes (frames_of (most_insertions p.version) ops)) cause p.spelled.bytes h.1
never_both bytes ops n cause p (inr h) =
    let e : spelling_in p.version ops ++ [] ≡ spelling_in h.version h.ops ++ h.rest = append-nil (spelling_in p.version ops) ∙ sym p.spelled.bytes ∙ h.before in
    let version = versions_unique p.version h.version ops h.ops [] h.rest e in
    let e' : spelling_in h.version ops ++ [] ≡ spelling_in h.version h.ops ++ h.rest = ap (λ (u : Version). spelling_in u ops ++ []) (sym version) ∙ e in
    let same = ops_unique h.version ops h.ops [] h.rest p.spelled.well_formed h.well_formed (Ends-nil _ _) (Ends-fault h.version (tip_of (most_insertions h.version) h.ops) h.rest cause h.shown) e' in
    omega (arith, h.goes_on, ap (λ (s : List ℕ). length s) same.1)

pub one_fault : (bytes : List ℕ) (m n : ℕ) (c d : Cause) → IsFault bytes m c → IsFault bytes n d → (m ≡ n) × (c ≡ d)
one_fault bytes m n c d (inl p) (inl q) = let first = p.1 in let second = q.1 in (p.0 ∙ sym q.0, cc)
one_fault bytes m n c d (inl p) (inr q) = absurd (spelling_right q.version bytes q.rest q.ops c q.before p.1)
one_fault bytes m n c d (inr p) (inl q) = absurd (spelling_right p.version bytes p.rest p.ops d p.before q.1)
one_fault bytes m n c d (inr p) (inr q) =
    let e : spelling_in p.version p.ops ++ p.rest ≡ spelling_in q.version q.ops ++ q.rest = sym p.before ∙ q.before in
    let version = versions_unique p.version q.version p.ops q.ops p.rest q.rest e in
    let e' : spelling_in q.version p.ops ++ p.rest ≡ spelling_in q.version q.ops ++ q.rest = ap (λ (u : Version). spelling_in u p.ops ++ p.rest) (sym version) ∙ e in
    let shown' : cause_at q.version (tip_of (most_insertions q.version) p.ops) p.rest ≡ Some c = ap (λ (u : Version). cause_at u (tip_of (most_insertions u) p.ops) p.rest) (sym version) ∙ p.shown in
    let same = ops_unique q.version p.ops q.ops p.rest q.rest p.well_formed q.well_formed
    (Ends-fault q.version (tip_of (most_insertions q.version) p.ops) p.rest c shown') (Ends-fault q.version (tip_of (most_insertions q.version) q.ops) q.rest d q.shown) e' in
    let shown : Some c ≡ Some d = sym shown' ∙ (λ i. cause_at q.version (tip_of (most_insertions q.version) (same.0 i)) (same.1 i)) ∙ q.shown in
    let count : length (frames_of (most_insertions p.version) p.ops) ≡ length (frames_of (most_insertions q.version) q.ops) = λ i. length (frames_of (most_insertions (version i)) (same.0 i)) in
    (p.number ∙ ap (λ (k : ℕ). k + 1) count ∙ sym q.number, cc)
