-- What a row has, after a value was written at some places.
use Rattle.std.proofs.Common.{◌≡◌, ℕ, ◌+◌, ◌<◌, ◌≤◌, max, leb, ltb, cond, List, refl, ap, ◌∙◌, sym, arith, get_or, set, length, inl, inr}
use Rattle.std.specs.Prelude.{◌&&◌}
use Rattle.std.proofs.lemmas.Bool.Decides.{nat_tests}
use Rattle.std.proofs.lemmas.Bool.{cases_eq, le-leb, lt-ltb}
use Rattle.std.proofs.lemmas.List.{get_or-set_same, get_or-set_other}

-- one more place is written
pub written-more : {V : Type 0} (from at k : ℕ) (row was : List V) (value d : V) → from ≤ at → at < length row
    → get_or row k d ≡ cond (leb from k && ltb k at) value (get_or was k d) → get_or (set row at value) k d ≡ cond (leb from k && ltb k (at + 1)) value (get_or was k d)
written-more from at k row was value d low within before =
    elim (cases_eq k at) [
      | inl here ↦ rw here (get_or-set_same row at value d within ∙ sym (rw (le-leb from at low, lt-ltb at (at + 1) (omega arith)) refl))
      | inr ne ↦
          let same : ltb k at ≡ ltb k (at + 1) = grind (arith, nat_tests) in
          get_or-set_other row at k value d ne ∙ before ∙ ap (λ b. cond (leb from k && b) value (get_or was k d)) same
    ]

-- the places that are written, once the loop is at its end
pub written-all : (from to at k : ℕ) → to ≤ at → from ≤ at → at ≤ max from to → (leb from k && ltb k at) ≡ (leb from k && ltb k to)
written-all from to at k end low high = grind (arith, nat_tests)
