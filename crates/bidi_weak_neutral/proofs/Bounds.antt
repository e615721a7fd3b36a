-- All resolved levels are at most 126.
use Rattle.std.proofs.Common.{arith, ℕ, ◌+◌, ◌%◌, ◌==◌, ◌≤◌, ◌≡◌, refl, sym, subst, List, Bool, true, false}
use Rattle.std.specs.Prelude.{◌||◌, if◌then◌else◌}
use Rattle.std.specs.List.{All}
use Rattle.std.proofs.lemmas.List.Elements.{All-map, All-weaker}
use Rattle.bg_types.specs.declared.class.Bidi.{Bidi}
use Rattle.bg_types.specs.declared.class.Bidi.TheVariants.{L, R}
use Rattle.unicode_tables.specs.Tables.{TableValues}
use Rattle.bidi_explicit.specs.Embedding.{Embedding}
use Rattle.bidi_weak_neutral.specs.Classes.{is, is_number}
use Rattle.bidi_weak_neutral.specs.Neutral.{implicit_level}
use Rattle.bidi_weak_neutral.specs.Levels.{types_of_sequence, sequence_levels, resolved_levels}
use Rattle.bidi_weak_neutral.proofs.AllLevels.{resolved_levels-all}

if-le : (b : Bool) (x y n : ℕ) → x ≤ n → y ≤ n → (if b then x else y) ≤ n
if-le true x y n p q = p
if-le false x y n p q = q

-- I1 and I2
by_parity : (level : ℕ) (c : Bidi) (b : Bool) → (level % 2 == 1) ≡ b → level ≤ 125 → implicit_level level c ≤ 126
by_parity level c true e h =
    subst (λ b. (if b then (if is c L || is_number c then level + 1 else level) else (if is c R then level + 1 else (if is_number c then level + 2 else level))) ≤ 126) (sym e)
    (if-le (is c L || is_number c) _ _ _ (omega arith) (omega arith))
by_parity level c false e h =
    let even : level ≤ 124 = grind arith in
    subst (λ b. (if b then (if is c L || is_number c then level + 1 else level) else (if is c R then level + 1 else (if is_number c then level + 2 else level))) ≤ 126) (sym e)
    (if-le (is c R) _ _ _ (omega arith) (if-le (is_number c) _ _ _ (omega arith) (omega arith)))

implicit_level-le : (level : ℕ) (c : Bidi) → level ≤ 125 → implicit_level level c ≤ 126
implicit_level-le level c h = by_parity level c (level % 2 == 1) refl h

pub resolved_levels-le : (tables : TableValues) (points : List ℕ) (e : Embedding) → e.level ≤ 126 → All (λ s. s.level ≤ 125) e.sequences
    → All (λ level. level ≤ 126) (resolved_levels tables points e)
resolved_levels-le tables points e h depth =
    resolved_levels-all (λ level. level ≤ 126) tables points e h
    (All-weaker (λ s. s.level ≤ 125) (λ s. All (λ level. level ≤ 126) (sequence_levels tables points e.places s))
    (λ s low. All-map (λ level. level ≤ 126) (implicit_level s.level) (types_of_sequence tables points e.places s) (λ k d lt. implicit_level-le s.level _ low))
    e.sequences depth)
