-- Which identifier stands before which in a list.
use Rattle.std.proofs.Common.{◌≡◌, ℕ, zero, suc, ◌<◌, ◌⊎◌, inl, inr, Bool, true, false, cond, ◌||◌, List, [], ◌∷◌, ◌++◌, length, refl, sym, ap, subst, ◌∙◌, append_assoc, arith}
use Rattle.std.specs.Prelude.{filter, Contains, slice_index_or}
use Rattle.std.specs.List.{AllByRecursion, IsDistinct, list_any}
use Rattle.std.proofs.lemmas.List.Elements.{filter-append}
use Rattle.std.proofs.lemmas.List.Folds.{list_any-append}
use Rattle.bg_types.specs.Identifier.{Identifier, same_id}
use Rattle.bg_types.proofs.Interface.{same_id-is, same_id-itself}
use Rattle.rga_tree.specs.Order.{StandsBefore}
use Rattle.std.proofs.lemmas.Bool.{or_left, or_right}

abbrev pub Ids : Type 0
Ids = List Identifier

abbrev pub is_among : Identifier → Ids → Bool
is_among a ids = list_any (same_id a) ids

pub among_right : (a : Identifier) (xs ys : Ids) → is_among a ys ≡ true → is_among a (xs ++ ys) ≡ true
among_right a xs ys h = list_any-append (same_id a) xs ys ∙ or_right (is_among a xs) (is_among a ys) h

pub among_left : (a : Identifier) (xs ys : Ids) → is_among a xs ≡ true → is_among a (xs ++ ys) ≡ true
among_left a xs ys h = list_any-append (same_id a) xs ys ∙ or_left (is_among a xs) (is_among a ys) h

pub among_first : (a : Identifier) (xs : Ids) → is_among a (a ∷ xs) ≡ true
among_first a xs = or_left (same_id a a) (is_among a xs) (same_id-itself a)

pub among_here : (a : Identifier) (xs ys : Ids) → is_among a (xs ++ a ∷ ys) ≡ true
among_here a xs ys = among_right a xs (a ∷ ys) (among_first a ys)

pub among-contains : (a : Identifier) (ids : Ids) → Contains ids a → is_among a ids ≡ true
among-contains a ids c = by_place ids c.0 c.1 c.2 where
  by_place : (ids : Ids) (k : ℕ) → k < length ids → slice_index_or ids k a ≡ a → is_among a ids ≡ true
  by_place [] k within is = absurd (omega arith)
  by_place (x ∷ ids) zero within is = or_left (same_id a x) (is_among a ids) (ap (same_id a) is ∙ same_id-itself a)
  by_place (x ∷ ids) (suc k) within is = or_right (same_id a x) (is_among a ids) (by_place ids k (omega arith) is)

pub StandsBefore-behind : (x a b : Identifier) (ids : Ids) → StandsBefore ids a b → StandsBefore (x ∷ ids) a b
StandsBefore-behind x a b ids h = record { front = x ∷ h.front; between = h.between; back = h.back; in_order = ap (λ r. x ∷ r) h.in_order }

-- where it stands
pub place_in : (a : Identifier) (ids : Ids) → is_among a ids ≡ true → (front : Ids) × (back : Ids) × (ids ≡ front ++ a ∷ back)
place_in a [] h = absurd cc
place_in a (x ∷ ids) h =
    elim (same_id a x) as (λ b. same_id a x ≡ b → (b || is_among a ids) ≡ true → (front : Ids) × (back : Ids) × (x ∷ ids ≡ front ++ a ∷ back)) [
      | true ↦ λ here _. ([], ids, ap (λ y. y ∷ ids) (sym (same_id-is a x here)))
      | false ↦ λ _ h. let rest = place_in a ids h in (x ∷ rest.0, rest.1, ap (λ r. x ∷ r) rest.2)
    ] refl h

first_of_two : (a b : Identifier) (ids : Ids) → is_among b ids ≡ true → StandsBefore (a ∷ ids) a b
first_of_two a b ids h = let at = place_in b ids h in record { front = []; between = at.0; back = at.1; in_order = ap (λ r. a ∷ r) at.2 }

-- ---- one way or the other

pub either_way : (a b : Identifier) (ids : Ids) → (a ≡ b → ⊥) → is_among a ids ≡ true → is_among b ids ≡ true → StandsBefore ids a b ⊎ StandsBefore ids b a
either_way a b [] differ at_a at_b = absurd cc
either_way a b (x ∷ ids) differ at_a at_b = by_test (same_id a x) (same_id b x) refl refl at_a at_b (either_way a b ids differ) where
  behind : StandsBefore ids a b ⊎ StandsBefore ids b a → StandsBefore (x ∷ ids) a b ⊎ StandsBefore (x ∷ ids) b a
  behind (inl h) = inl (StandsBefore-behind x a b ids h)
  behind (inr h) = inr (StandsBefore-behind x b a ids h)

  by_test : (c d : Bool) → same_id a x ≡ c → same_id b x ≡ d → (c || is_among a ids) ≡ true → (d || is_among b ids) ≡ true
      → (is_among a ids ≡ true → is_among b ids ≡ true → StandsBefore ids a b ⊎ StandsBefore ids b a) → StandsBefore (x ∷ ids) a b ⊎ StandsBefore (x ∷ ids) b a
  by_test true true here too p q later = absurd (differ (same_id-is a x here ∙ sym (same_id-is b x too)))
  by_test true false here too p q later = inl (subst (λ y. StandsBefore (y ∷ ids) a b) (same_id-is a x here) (first_of_two a b ids q))
  by_test false true here too p q later = inr (subst (λ y. StandsBefore (y ∷ ids) b a) (same_id-is b x too) (first_of_two b a ids p))
  by_test false false here too p q later = behind (later p q)

-- ---- never both ways, and in turn

-- an identifier is not among those that differ from it
not_among : (x a : Identifier) (ids : Ids) → AllByRecursion (λ y. same_id x y ≡ false) ids → is_among a ids ≡ true → x ≡ a → ⊥
not_among x a [] apart at is = absurd cc
not_among x a (y ∷ ids) apart at is = by_test (same_id a y) refl at (λ h. not_among x a ids apart.1 h is) where
  by_test : (b : Bool) → same_id a y ≡ b → (b || is_among a ids) ≡ true → (is_among a ids ≡ true → ⊥) → ⊥
  by_test true here h later = let itself : same_id x y ≡ true = ap (λ z. same_id z y) is ∙ here in let other = apart.0 in absurd cc
  by_test false here h later = later h

pub tail_is : (x y : Identifier) (xs ys : Ids) → x ∷ xs ≡ y ∷ ys → xs ≡ ys
tail_is x y xs ys e = cc

pub head_is : (x y : Identifier) (xs ys : Ids) → x ∷ xs ≡ y ∷ ys → x ≡ y
head_is x y xs ys e = cc

twice : (x a : Identifier) (ids front back : Ids) → IsDistinct same_id (x ∷ ids) → ids ≡ front ++ a ∷ back → x ≡ a → ⊥
unfolding IsDistinct
twice x a ids front back distinct split is = not_among x a ids distinct.0 (ap (is_among a) split ∙ among_here a front back) is

distinct_rest : (x : Identifier) (ids : Ids) → IsDistinct same_id (x ∷ ids) → IsDistinct same_id ids
unfolding IsDistinct
distinct_rest x ids h = h.1

no_two_ways : (a b : Identifier) (ids f m k g n l : Ids) → IsDistinct same_id ids → ids ≡ f ++ a ∷ m ++ b ∷ k → ids ≡ g ++ b ∷ n ++ a ∷ l → ⊥
no_two_ways a b [] [] m k g n l distinct p q = absurd cc
no_two_ways a b [] (y ∷ f) m k g n l distinct p q = absurd cc
no_two_ways a b (x ∷ ids) [] m k [] n l distinct p q =
    twice x b ids m k distinct (tail_is x a ids (m ++ b ∷ k) p) (head_is x b ids (n ++ a ∷ l) q)
no_two_ways a b (x ∷ ids) [] m k (z ∷ g) n l distinct p q =
    twice x a ids (g ++ b ∷ n) l distinct (tail_is x z ids (g ++ b ∷ n ++ a ∷ l) q) (head_is x a ids (m ++ b ∷ k) p)
no_two_ways a b (x ∷ ids) (y ∷ f) m k [] n l distinct p q =
    twice x b ids (f ++ a ∷ m) k distinct (tail_is x y ids (f ++ a ∷ m ++ b ∷ k) p) (head_is x b ids (n ++ a ∷ l) q)
no_two_ways a b (x ∷ ids) (y ∷ f) m k (z ∷ g) n l distinct p q =
    no_two_ways a b ids f m k g n l (distinct_rest x ids distinct) (tail_is x y ids (f ++ a ∷ m ++ b ∷ k) p) (tail_is x z ids (g ++ b ∷ n ++ a ∷ l) q)

pub never_both_ways : (a b : Identifier) (ids : Ids) → IsDistinct same_id ids → StandsBefore ids a b → StandsBefore ids b a → ⊥
never_both_ways a b ids distinct h k = no_two_ways a b ids h.front h.between h.back k.front k.between k.back distinct h.in_order k.in_order

through : (a b c : Identifier) (ids f m k g n l : Ids) → IsDistinct same_id ids → ids ≡ f ++ a ∷ m ++ b ∷ k → ids ≡ g ++ b ∷ n ++ c ∷ l → StandsBefore ids a c
through a b c [] [] m k g n l distinct p q = absurd cc
through a b c [] (y ∷ f) m k g n l distinct p q = absurd cc
through a b c (x ∷ ids) [] m k [] n l distinct p q =
    absurd (twice x b ids m k distinct (tail_is x a ids (m ++ b ∷ k) p) (head_is x b ids (n ++ c ∷ l) q))
through a b c (x ∷ ids) [] m k (z ∷ g) n l distinct p q =
    let here : x ≡ a = head_is x a ids (m ++ b ∷ k) p in
    let rest : ids ≡ (g ++ b ∷ n) ++ c ∷ l = tail_is x z ids (g ++ b ∷ n ++ c ∷ l) q in
    record { front = []; between = g ++ b ∷ n; back = l; in_order = (λ i. here i ∷ rest i) }
through a b c (x ∷ ids) (y ∷ f) m k [] n l distinct p q =
    absurd (twice x b ids (f ++ a ∷ m) k distinct (tail_is x y ids (f ++ a ∷ m ++ b ∷ k) p) (head_is x b ids (n ++ c ∷ l) q))
through a b c (x ∷ ids) (y ∷ f) m k (z ∷ g) n l distinct p q =
    StandsBefore-behind x a c ids
    (through a b c ids f m k g n l (distinct_rest x ids distinct) (tail_is x y ids (f ++ a ∷ m ++ b ∷ k) p) (tail_is x z ids (g ++ b ∷ n ++ c ∷ l) q))

pub in_turn : (a b c : Identifier) (ids : Ids) → IsDistinct same_id ids → StandsBefore ids a b → StandsBefore ids b c → StandsBefore ids a c
in_turn a b c ids distinct h k = through a b c ids h.front h.between h.back k.front k.between k.back distinct h.in_order k.in_order

-- ---- where some are left out

-- a stands in a list, with these after it that pass
abbrev Splits : (Identifier → Bool) → Identifier → Ids → Ids → Type 0
Splits p a back ids = (before : Ids) × (after : Ids) × (ids ≡ before ++ a ∷ after) × (filter p after ≡ back)

Splits-behind : (p : Identifier → Bool) (x a : Identifier) (back ids : Ids) → Splits p a back ids → Splits p a back (x ∷ ids)
Splits-behind p x a back ids h = (x ∷ h.0, h.1, ap (λ r. x ∷ r) h.2, h.3)

-- where a stands in a filtered list it stands in the list
unfiltered : (p : Identifier → Bool) (ids front back : Ids) (a : Identifier) → filter p ids ≡ front ++ a ∷ back → Splits p a back ids
unfiltered p [] [] back a h = absurd cc
unfiltered p [] (y ∷ front) back a h = absurd cc
unfiltered p (x ∷ ids) front back a h = by_test (p x) front h (λ f. unfiltered p ids f back a) where
  by_test : (b : Bool) → (front : Ids) → cond b (x ∷ filter p ids) (filter p ids) ≡ front ++ a ∷ back
      → ((f : Ids) → filter p ids ≡ f ++ a ∷ back → Splits p a back ids) → Splits p a back (x ∷ ids)
  by_test true [] h later = ([], ids, ap (λ y. y ∷ ids) (head_is x a (filter p ids) back h), tail_is x a (filter p ids) back h)
  by_test true (y ∷ front) h later = Splits-behind p x a back ids (later front (tail_is x y (filter p ids) (front ++ a ∷ back) h))
  by_test false front h later = Splits-behind p x a back ids (later front h)

pub StandsBefore-unfiltered : (p : Identifier → Bool) (ids : Ids) (a b : Identifier) → StandsBefore (filter p ids) a b → StandsBefore ids a b
StandsBefore-unfiltered p ids a b h =
    let first = unfiltered p ids h.front (h.between ++ b ∷ h.back) a (h.in_order ∙ append_assoc h.front (a ∷ h.between) (b ∷ h.back)) in
    let second = unfiltered p first.1 h.between h.back b first.3 in
    record { front = first.0; between = second.0; back = second.1; in_order = first.2 ∙ ap (λ r. first.0 ++ a ∷ r) second.2 ∙ sym (append_assoc first.0 (a ∷ second.0) (b ∷ second.1)) }

pub filter_at : {X : Type 0} (p : X → Bool) (f r : List X) (a : X) → p a ≡ true → filter p (f ++ a ∷ r) ≡ filter p f ++ a ∷ filter p r
filter_at p f r a kept = filter-append p f (a ∷ r) ∙ ap (λ c. filter p f ++ cond c (a ∷ filter p r) (filter p r)) kept

pub StandsBefore-filtered : (p : Identifier → Bool) (ids : Ids) (a b : Identifier) → p a ≡ true → p b ≡ true → StandsBefore ids a b → StandsBefore (filter p ids) a b
StandsBefore-filtered p ids a b kept_a kept_b h = record {
  front = filter p h.front;
  between = filter p h.between;
  back = filter p h.back;
  in_order = ap (filter p) h.in_order ∙ filter_at p (h.front ++ a ∷ h.between) h.back b kept_b ∙ ap (λ r. r ++ b ∷ filter p h.back) (filter_at p h.front h.between a kept_a);
}
