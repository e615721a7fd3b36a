-- One cluster left of another in a list.
use Rattle.std.proofs.Common.{ℕ, zero, suc, ◌≡◌, sym, subst, inl, inr, ◌⊎◌, List, [], ◌∷◌, ◌++◌, reverse, Bool}
use Rattle.reorder.specs.VisualList.{Cluster, runs_reversed_behind, runs_reversed, is_at_least, reversed_from}
use Rattle.reorder.proofs.Rounds.{reverse-cons, round-pass, round-stop}
use Rattle.bg_types.proofs.Interface.{two_cases}

-- x is in the list
unfoldable pub In : Cluster → List Cluster → Type 0
In x [] = ⊥
In x (y ∷ ys) = (y ≡ x) ⊎ In x ys

-- x stands somewhere left of y
unfoldable pub Left : Cluster → Cluster → List Cluster → Type 0
Left x y [] = ⊥
Left x y (z ∷ zs) = ((z ≡ x) × In y zs) ⊎ Left x y zs

pub in-left : (x : Cluster) (p q : List Cluster) → In x p → In x (p ++ q)
unfolding In
in-left x [] q h = absurd h
in-left x (z ∷ p) q (inl e) = inl e
in-left x (z ∷ p) q (inr h) = inr (in-left x p q h)

pub in-right : (x : Cluster) (p q : List Cluster) → In x q → In x (p ++ q)
unfolding In
in-right x [] q h = h
in-right x (z ∷ p) q h = inr (in-right x p q h)

pub left-left : (x y : Cluster) (p q : List Cluster) → Left x y p → Left x y (p ++ q)
unfolding Left In
left-left x y [] q h = absurd h
left-left x y (z ∷ p) q (inl e) = inl (e.0, in-left y p q e.1)
left-left x y (z ∷ p) q (inr h) = inr (left-left x y p q h)

pub left-right : (x y : Cluster) (p q : List Cluster) → Left x y q → Left x y (p ++ q)
unfolding Left In
left-right x y [] q h = h
left-right x y (z ∷ p) q h = inr (left-right x y p q h)

pub left-across : (x y : Cluster) (p q : List Cluster) → In x p → In y q → Left x y (p ++ q)
unfolding Left In
left-across x y [] q h k = absurd h
left-across x y (z ∷ p) q (inl e) k = inl (e, in-right y p q k)
left-across x y (z ∷ p) q (inr h) k = inr (left-across x y p q h k)

pub in-reverse : (x : Cluster) (l : List Cluster) → In x l → In x (reverse l)
unfolding In
in-reverse x [] h = absurd h
in-reverse x (z ∷ zs) (inl e) = subst (In x) (sym (reverse-cons z zs)) (in-right x (reverse zs) (z ∷ []) (inl e))
in-reverse x (z ∷ zs) (inr h) = subst (In x) (sym (reverse-cons z zs)) (in-left x (reverse zs) (z ∷ []) (in-reverse x zs h))

pub left-reverse : (x y : Cluster) (l : List Cluster) → Left x y l → Left y x (reverse l)
unfolding Left In
left-reverse x y [] h = absurd h
left-reverse x y (z ∷ zs) (inl e) =
    subst (Left y x) (sym (reverse-cons z zs)) (left-across y x (reverse zs) (z ∷ []) (in-reverse y zs e.1) (inl e.0))
left-reverse x y (z ∷ zs) (inr h) =
    subst (Left y x) (sym (reverse-cons z zs)) (left-left y x (reverse zs) (z ∷ []) (left-reverse x y zs h))

pub in-round : (x : Cluster) (p : Cluster → Bool) (run xs : List Cluster) → In x run ⊎ In x xs → In x (runs_reversed_behind p run xs)
unfolding In
in-round x p run [] (inl h) = h
in-round x p run [] (inr h) = absurd h
in-round x p run (z ∷ xs) h =
    two_cases (p z)
    (λ e. subst (In x) (sym (round-pass p run xs z e)) (in-round x p (z ∷ run) xs (elim h [ inl r ↦ inl (inr r) | inr t ↦ elim t [ inl s ↦ inl (inl s) | inr u ↦ inr u ] ])))
    (λ e. subst (In x) (sym (round-stop p run xs z e)) (elim h [
      | inl r ↦ in-left x run (z ∷ runs_reversed p xs) r
      | inr t ↦ in-right x run (z ∷ runs_reversed p xs) (elim t [ inl s ↦ inl s | inr u ↦ inr (in-round x p [] xs (inr u)) ])
    ]))

pub in-rounds : (x : Cluster) (n k : ℕ) (xs : List Cluster) → In x xs → In x (reversed_from n k xs)
in-rounds x zero k xs h = h
in-rounds x (suc n) k xs h = in-round x (is_at_least k) [] (reversed_from n (suc k) xs) (inr (in-rounds x n (suc k) xs h))
