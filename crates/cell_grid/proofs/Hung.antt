-- Columns that hang, one after the other.
use Rattle.std.proofs.Common.{◌≡◌, ℕ, suc, ◌-◌, ◌<◌, ◌≤◌, cond, List, [], ◌∷◌, length, replicate, refl, sym, ap, ◌∙◌, arith, inl, inr}
use Rattle.std.proofs.lemmas.Bool.{le-leb, lt-leb}
use Rattle.std.proofs.lemmas.Bool.Decides.{leb_tells}
use Rattle.cell_grid.specs.Hanging.{hung}

pub hung-fits : (room n : ℕ) (later : List ℕ) → n ≤ room → hung room (n ∷ later) ≡ n ∷ hung (room - n) later
hung-fits room n later le = ap (λ b. cond b (n ∷ hung (room - n) later) (replicate (suc (length later)) 0)) (le-leb n room le)

hung-cut : (room n : ℕ) (later : List ℕ) → room < n → hung room (n ∷ later) ≡ replicate (suc (length later)) 0
hung-cut room n later lt = ap (λ b. cond b (n ∷ hung (room - n) later) (replicate (suc (length later)) 0)) (lt-leb n room lt)

-- with no room left none has columns
pub hung-none : (later : List ℕ) → hung 0 later ≡ replicate (length later) 0
hung-none [] = refl
hung-none (n ∷ later) = elim (leb_tells n 0) [
  | inl fits ↦
      let le = fits.1 in
      let z : n ≡ 0 = omega arith in
      let r : 0 - n ≡ 0 = omega arith in
      hung-fits 0 n later le ∙ ap (λ k. k ∷ hung (0 - n) later) z ∙ ap (λ k. 0 ∷ hung k later) r ∙ ap (λ l. 0 ∷ l) (hung-none later)
  | inr full ↦ hung-cut 0 n later full.1
]

pub hung-full : (room n : ℕ) (later : List ℕ) → room < n → hung room (n ∷ later) ≡ 0 ∷ hung 0 later
hung-full room n later lt = hung-cut room n later lt ∙ ap (λ l. 0 ∷ l) (sym (hung-none later))
