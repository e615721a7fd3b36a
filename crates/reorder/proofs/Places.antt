-- The places of two numbers in a list.
use Rattle.std.proofs.Common.{ℕ, suc, ◌≡◌, ap, sym, ◌∙◌, inl, inr, List, [], ◌∷◌, get_or, Some, arith, eqb}
use Rattle.std.specs.Prelude.{slice_get}
use Rattle.std.specs.List.{IsDistinct}
use Rattle.std.proofs.lemmas.Bool.{cases_order, eqb-false}
use Rattle.std.proofs.lemmas.Map.Keys.{apart_from_distinct}
use Rattle.std.proofs.lemmas.Option.{slice_get_within, get_or_from_slice_get}
use Rattle.reorder.specs.VisualList.{Cluster, numbers}
use Rattle.reorder.specs.VisualOrder.{StandsLeft}
use Rattle.reorder.proofs.Left.{In, Left}

in-place : (x : Cluster) (l : List Cluster) → In x l → (q : ℕ) × (slice_get (numbers l) q ≡ Some x.0)
unfolding In
in-place x [] h = absurd h
in-place x (z ∷ zs) (inl e) = (0, ap (λ c. Some c.0) e)
in-place x (z ∷ zs) (inr h) = let at = in-place x zs h in (suc at.0, at.1)

pub left-places : (x y : Cluster) (l : List Cluster) → Left x y l → StandsLeft (numbers l) x.0 y.0
unfolding Left
left-places x y [] h = absurd h
left-places x y (z ∷ zs) (inl e) = let at = in-place y zs e.1 in (0, suc at.0, omega arith, ap (λ c. Some c.0) e.0, at.1)
left-places x y (z ∷ zs) (inr h) = let at = left-places x y zs h in (suc at.0, suc at.1, omega (arith, at.2), at.3, at.4)

one-place : (xs : List ℕ) (p q v : ℕ) → IsDistinct eqb xs → slice_get xs p ≡ Some v → slice_get xs q ≡ Some v → p ≡ q
one-place xs p q v distinct at at' =
    let e : get_or xs p 0 ≡ get_or xs q 0 = get_or_from_slice_get xs p v 0 at ∙ sym (get_or_from_slice_get xs q v 0 at') in
    elim (cases_order p q) [
      | inl same ↦ same
      | inr differ ↦ elim differ [
        | inl lt ↦ absurd (eqb-false (get_or xs p 0) (get_or xs q 0) (apart_from_distinct eqb xs p q 0 distinct lt (slice_get_within xs q v at')) e)
        | inr lt ↦ absurd (eqb-false (get_or xs q 0) (get_or xs p 0) (apart_from_distinct eqb xs q p 0 distinct lt (slice_get_within xs p v at)) (sym e))
      ]
    ]

pub not-both : (xs : List ℕ) (i j : ℕ) → IsDistinct eqb xs → StandsLeft xs i j → StandsLeft xs j i → ⊥
not-both xs i j distinct h h' =
    let e = one-place xs h.0 h'.1 i distinct h.3 h'.4 in
    let e' = one-place xs h.1 h'.0 j distinct h.4 h'.3 in
    omega (arith, e, e', h.2, h'.2)
