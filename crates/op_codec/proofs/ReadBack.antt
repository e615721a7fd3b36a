-- A frame's bytes give back its operation, so no frame begins another.
use Rattle.std.proofs.Common.{◌≡◌, ℕ, ◌+◌, ◌*◌, ◌^◌, ◌<◌, ◌≤◌, List, [], ◌∷◌, ◌++◌, length, slice_index, drop, refl, sym, ap, ◌∙◌, arith}
use Rattle.std.specs.List.{flat_map, AllByRecursion}
use Rattle.std.specs.Char.{IsScalar}
use Rattle.std.proofs.Math.Utf8.{scalar_fits}
use Rattle.byteorder.specs.Endian.{big_bytes, big_number}
use Rattle.byteorder.specs.Numbers.{big_number-reads_back}
use Rattle.bg_types.specs.Identifier.{Identifier}
use Rattle.bg_types.specs.WellFormed.{IsWellFormed, MayFollow}
use Rattle.bg_types.specs.declared.op.Place.{Place}
use Rattle.bg_types.specs.declared.op.Place.TheVariants.{Root, After}
use Rattle.bg_types.specs.declared.op.OpView.{OpView}
use Rattle.bg_types.specs.declared.op.OpView.TheVariants.{Insert, Erase}
use Rattle.op_codec.specs.Spelling.{identifier_bytes, parent_identifier, frame, Frame, bytes_with, frame_bytes}
use Rattle.op_codec.specs.Frames.{MayGoOn, IsFrame}
use Rattle.op_codec.specs.Fault.{identifier_at}
use Rattle.op_codec.proofs.Characters.{characters_unique}

pub identifier_again : (id : Identifier) (rest : List ℕ) → id.counter < 2 ^ 32 → id.site < 2 ^ 16 → identifier_at (identifier_bytes id ++ rest) ≡ id
identifier_again id rest counter site =
    let c : big_number 4 (identifier_bytes id ++ rest) ≡ id.counter = big_number-reads_back 4 id.counter (big_bytes 2 id.site ++ rest) counter in
    let s : big_number 2 (drop 4 (identifier_bytes id ++ rest)) ≡ id.site = big_number-reads_back 2 id.site rest site in
    λ i. record { counter = c i; site = s i }

pub parent_fits : (place : Place) (id : Identifier) → MayFollow place id → ((parent_identifier place).counter < 2 ^ 32) × ((parent_identifier place).site < 2 ^ 16)
parent_fits Root id ok = (omega arith, omega arith)
parent_fits (After parent) id ok = (ok.0.counter_fits, ok.0.site_fits)

same_parent : (a b : Place) (i j : Identifier) → MayFollow a i → MayFollow b j → parent_identifier a ≡ parent_identifier b → a ≡ b
same_parent Root Root i j p q e = refl
same_parent Root (After b) i j p q e = absurd (omega (arith, ap (λ (x : Identifier). x.counter) e, q.0.counter_positive))
same_parent (After a) Root i j p q e = absurd (omega (arith, ap (λ (x : Identifier). x.counter) e, p.0.counter_positive))
same_parent (After a) (After b) i j p q e = ap After e

-- two frames of one operation at the front of the same bytes are one
pub op_unique : (a b : OpView) (x y : List ℕ) → IsWellFormed a → IsWellFormed b → frame a ++ x ≡ frame b ++ y → (a ≡ b) × (x ≡ y)
op_unique (Insert i p c) (Erase t) x y ok ok' e = absurd (omega (arith, ap (λ (s : List ℕ). slice_index s 2) e))
op_unique (Erase t) (Insert i p c) x y ok ok' e = absurd (omega (arith, ap (λ (s : List ℕ). slice_index s 2) e))
op_unique (Erase s) (Erase t) x y ok ok' e =
    let same : s ≡ t = sym (identifier_again s x ok.counter_fits ok.site_fits) ∙ ap (λ (b : List ℕ). identifier_at (drop 3 b)) e ∙ identifier_again t y ok'.counter_fits ok'.site_fits in
    (ap Erase same, ap (drop 9) e)
op_unique (Insert i p c) (Insert j q d) x y ok ok' e =
    let f = parent_fits p i ok.1 in
    let f' = parent_fits q j ok'.1 in
    let id : i ≡ j = sym (identifier_again i (identifier_bytes (parent_identifier p) ++ (big_bytes 4 c ++ x)) ok.0.counter_fits ok.0.site_fits) ∙ ap (λ (b : List ℕ). identifier_at (drop 3 b)) e ∙ identifier_again j (identifier_bytes (parent_identifier q) ++ (big_bytes 4 d ++ y)) ok'.0.counter_fits ok'.0.site_fits in
    let parent : parent_identifier p ≡ parent_identifier q = sym (identifier_again (parent_identifier p) (big_bytes 4 c ++ x) f.0 f.1) ∙ ap (λ (b : List ℕ). identifier_at (drop 9 b)) e ∙ identifier_again (parent_identifier q) (big_bytes 4 d ++ y) f'.0 f'.1 in
    let ch : c ≡ d = sym (big_number-reads_back 4 c x (scalar_fits c ok.2)) ∙ ap (λ (b : List ℕ). big_number 4 (drop 15 b)) e ∙ big_number-reads_back 4 d y (scalar_fits d ok'.2) in
    let place = same_parent p q i j ok.1 ok'.1 parent in
    ((λ k. Insert (id k) (place k) (ch k)), ap (drop 19) e)

-- a run has another kind
no_run : (a b : OpView) (d : ℕ) (ds x y : List ℕ) → frame a ++ x ≡ bytes_with b (d ∷ ds) ++ y → ⊥
no_run (Insert i p c) b d ds x y e = omega (arith, ap (λ (s : List ℕ). slice_index s 2) e)
no_run (Erase t) b d ds x y e = omega (arith, ap (λ (s : List ℕ). slice_index s 2) e)

run_unique : (i j : Identifier) (p q : Place) (c d : ℕ) (cs ds x y : List ℕ) → IsWellFormed (Insert i p c) → IsWellFormed (Insert j q d) → AllByRecursion IsScalar cs → AllByRecursion IsScalar ds
    → length cs ≤ 1023 → length ds ≤ 1023 → 0 < length cs → 0 < length ds → bytes_with (Insert i p c) cs ++ x ≡ bytes_with (Insert j q d) ds ++ y → (Insert i p c ≡ Insert j q d) × (cs ≡ ds) × (x ≡ y)
run_unique i j p q c d [] ds x y ok ok' all all' few few' some some' e = absurd (omega (arith, some))
run_unique i j p q c d (k ∷ cs) [] x y ok ok' all all' few few' some some' e = absurd (omega (arith, some'))
run_unique i j p q c d (k ∷ cs) (l ∷ ds) x y ok ok' all all' few few' some some' e =
    let f = parent_fits p i ok.1 in
    let f' = parent_fits q j ok'.1 in
    let more = flat_map (big_bytes 4) (k ∷ cs) ++ x in
    let more' = flat_map (big_bytes 4) (l ∷ ds) ++ y in
    let rest = identifier_bytes i ++ (identifier_bytes (parent_identifier p) ++ (big_bytes 4 c ++ more)) in
    let rest' = identifier_bytes j ++ (identifier_bytes (parent_identifier q) ++ (big_bytes 4 d ++ more')) in
    let size : 17 + 4 * length (k ∷ cs) ≡ 17 + 4 * length (l ∷ ds) =
    sym (big_number-reads_back 2 (17 + 4 * length (k ∷ cs)) (3 ∷ rest) (omega (arith, few))) ∙ ap (big_number 2) e ∙ big_number-reads_back 2 (17 + 4 * length (l ∷ ds)) (3 ∷ rest') (omega (arith, few')) in
    let id : i ≡ j = sym (identifier_again i (identifier_bytes (parent_identifier p) ++ (big_bytes 4 c ++ more)) ok.0.counter_fits ok.0.site_fits) ∙ ap (λ (b : List ℕ). identifier_at (drop 3 b)) e ∙ identifier_again j (identifier_bytes (parent_identifier q) ++ (big_bytes 4 d ++ more')) ok'.0.counter_fits ok'.0.site_fits in
    let parent : parent_identifier p ≡ parent_identifier q = sym (identifier_again (parent_identifier p) (big_bytes 4 c ++ more) f.0 f.1) ∙ ap (λ (b : List ℕ). identifier_at (drop 9 b)) e ∙ identifier_again (parent_identifier q) (big_bytes 4 d ++ more') f'.0 f'.1 in
    let ch : c ≡ d = sym (big_number-reads_back 4 c more (scalar_fits c ok.2)) ∙ ap (λ (b : List ℕ). big_number 4 (drop 15 b)) e ∙ big_number-reads_back 4 d more' (scalar_fits d ok'.2) in
    let place = same_parent p q i j ok.1 ok'.1 parent in
    let others = characters_unique (k ∷ cs) (l ∷ ds) x y all all' (omega (arith, size)) (ap (drop 19) e) in
    ((λ n. Insert (id n) (place n) (ch n)), others.0, others.1)

with_unique : (a b : OpView) (cs ds x y : List ℕ) → IsWellFormed a → IsWellFormed b → MayGoOn a cs → MayGoOn b ds → AllByRecursion IsScalar cs → AllByRecursion IsScalar ds → length cs ≤ 1023 → length ds ≤ 1023
    → bytes_with a cs ++ x ≡ bytes_with b ds ++ y → (a ≡ b) × (cs ≡ ds) × (x ≡ y)
with_unique a b [] [] x y ok ok' goes goes' all all' few few' e = let same = op_unique a b x y ok ok' e in (same.0, refl, same.1)
with_unique a b [] (d ∷ ds) x y ok ok' goes goes' all all' few few' e = absurd (no_run a b d ds x y e)
with_unique a b (c ∷ cs) [] x y ok ok' goes goes' all all' few few' e = absurd (no_run b a c cs y x (sym e))
with_unique (Erase t) b (c ∷ cs) (d ∷ ds) x y ok ok' goes goes' all all' few few' e = absurd goes
with_unique (Insert i p c) (Erase t) (k ∷ cs) (d ∷ ds) x y ok ok' goes goes' all all' few few' e = absurd goes'
with_unique (Insert i p c) (Insert j q d) (k ∷ cs) (l ∷ ds) x y ok ok' goes goes' all all' few few' e =
    run_unique i j p q c d (k ∷ cs) (l ∷ ds) x y ok ok' all all' few few' (omega arith) (omega arith) e

-- two frames at the front of the same bytes are one
pub frame_unique : (most : ℕ) (f g : Frame) (x y : List ℕ) → most ≤ 1024 → IsFrame most f → IsFrame most g → frame_bytes f ++ x ≡ frame_bytes g ++ y → (f ≡ g) × (x ≡ y)
frame_unique most f g x y small is is' e =
    let same = with_unique f.first g.first f.further g.further x y is.first is'.first is.goes_on is'.goes_on is.scalars is'.scalars (omega (arith, is.few, small)) (omega (arith, is'.few, small)) e in
    ((λ i. record { first = same.0 i; further = same.1 i }), same.2)
