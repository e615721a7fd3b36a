-- The places up to the nearest one that passes a test.
use Rattle.std.proofs.Common.{arith, ℕ, ◌+◌, ◌<◌, ◌≤◌, ◌≡◌, ap, sym, ◌∙◌, List, ◌∷◌, length, get_or, drop, below_more, Bool, false}
use Rattle.std.specs.Prelude.{if◌then◌else◌}
use Rattle.std.proofs.lemmas.List.{drop_more}
use Rattle.bidi_weak_neutral.specs.Context.{nearest}

-- from a place on, none passes before `end`, and the one there does, unless the list ends
pub record IsRun {A : Type 0} (passes : A → Bool) (d : A) (xs : List A) (from end : ℕ) : Type 0 where
  pub inside : (k : ℕ) → from ≤ k → k < end → passes (get_or xs k d) ≡ false
  pub ahead : nearest passes d (drop from xs) ≡ get_or xs end d

nearest-past : {A : Type 0} (passes : A → Bool) (d x : A) (xs : List A) → passes x ≡ false → nearest passes d (x ∷ xs) ≡ nearest passes d xs
nearest-past passes d x xs e = ap (λ b. if b then x else nearest passes d xs) e

pub nearest-drop : {A : Type 0} (passes : A → Bool) (d : A) (xs : List A) (i : ℕ) → i < length xs → passes (get_or xs i d) ≡ false
    → nearest passes d (drop i xs) ≡ nearest passes d (drop (i + 1) xs)
nearest-drop passes d xs i lt e = ap (nearest passes d) (drop_more xs i d lt) ∙ nearest-past passes d (get_or xs i d) (drop (i + 1) xs) e

pub IsRun-on : {A : Type 0} (passes : A → Bool) (d : A) (xs : List A) (i end : ℕ) → i < length xs → i < end
    → IsRun passes d xs i end → IsRun passes d xs (i + 1) end
IsRun-on passes d xs i end lt before r = record {
  inside = λ k from to. r.inside k (omega arith) to;
  ahead = sym (nearest-drop passes d xs i lt (r.inside i (omega arith) before)) ∙ r.ahead;
}

-- one more place
pub run-more : (P : ℕ → Type 0) (from end : ℕ) → ((k : ℕ) → from ≤ k → k < end → P k) → P end → (k : ℕ) → from ≤ k → k < end + 1 → P k
run-more P from end before here k start lt = below_more (λ n. from ≤ n → P n) end (λ n m s. before n s m) (λ s. here) k lt start
