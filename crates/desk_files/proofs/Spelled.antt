-- Lists that are taken one after the other.
use Rattle.std.proofs.Common.{◌≡◌, ◌<◌, get_or, ℕ, zero, suc, ◌+◌, List, [], ◌∷◌, ◌++◌, take, drop, length, sym, ap, ◌∙◌, arith}
use Rattle.std.proofs.lemmas.List.Concat.{flat_map-append, flat_map-cons}
use Rattle.std.proofs.lemmas.List.{append-nil}
use Rattle.bg_types.specs.declared.op.OpView.{OpView}
use Rattle.desk_files.specs.Files.{joined}

module _ {A : Type 0} where
  take-suc : (xs : List A) (i : ℕ) (x : A) → i < length xs → x ≡ get_or xs i x → take (suc i) xs ≡ take i xs ++ x ∷ []
  take-suc [] i x lt is = absurd (omega arith)
  take-suc (y ∷ xs) zero x lt is = ap (λ z. z ∷ []) (sym is)
  take-suc (y ∷ xs) (suc i) x lt is = ap (λ t. y ∷ t) (take-suc xs i x (omega arith) is)

  pub take-push : (xs : List A) (i : ℕ) (x : A) → i < length xs → x ≡ get_or xs i x → take (i + 1) xs ≡ take i xs ++ x ∷ []
  take-push xs i x lt is = let one : i + 1 ≡ suc i = omega arith in ap (λ k. take k xs) one ∙ take-suc xs i x lt is

  split-suc : (xs : List A) (i : ℕ) (x : A) → i < length xs → x ≡ get_or xs i x → xs ≡ take i xs ++ x ∷ drop (suc i) xs
  split-suc [] i x lt is = absurd (omega arith)
  split-suc (y ∷ xs) zero x lt is = ap (λ z. z ∷ xs) (sym is)
  split-suc (y ∷ xs) (suc i) x lt is = ap (λ t. y ∷ t) (split-suc xs i x (omega arith) is)

  pub split-at : (xs : List A) (i : ℕ) (x : A) → i < length xs → x ≡ get_or xs i x → xs ≡ take i xs ++ x ∷ drop (i + 1) xs
  split-at xs i x lt is = let one : suc i ≡ i + 1 = omega arith in split-suc xs i x lt is ∙ ap (λ k. take i xs ++ x ∷ drop k xs) one

-- one more list
pub joined-push : (lists : List (List OpView)) (ops : List OpView) → joined (lists ++ ops ∷ []) ≡ joined lists ++ ops
joined-push lists ops = flat_map-append (λ (o : List OpView). o) lists (ops ∷ []) ∙ ap (λ l. joined lists ++ l) (flat_map-cons (λ (o : List OpView). o) ops [] ∙ append-nil ops)
