-- The places of blocks, by their numbers.
use Rattle.std.proofs.Common.{◌≡◌, ◌≢◌, ℕ, zero, suc, ◌<◌, ◌≤◌, ◌+◌, ◌-◌, Bool, true, false, List, [], ◌∷◌, ◌++◌, length, get_or, Some, refl, sym, ap, ◌∙◌, arith}
use Rattle.std.specs.Prelude.{insert, set, slice_get, nat_lt}
use Rattle.std.proofs.lemmas.Bool.{ltb-true, ltb-false}
use Rattle.std.proofs.lemmas.List.Edits.{get_or-insert_below, get_or-insert_at, get_or-insert_above}
use Rattle.std.proofs.lemmas.Option.{slice_get_within}

pub slice_get-set_same : (xs : List ℕ) (i v : ℕ) → i < length xs → slice_get (set xs i v) i ≡ Some v
slice_get-set_same [] i v h = absurd (omega arith)
slice_get-set_same (x ∷ xs) zero v h = refl
slice_get-set_same (x ∷ xs) (suc i) v h = slice_get-set_same xs i v (omega arith)

pub slice_get-set_other : (xs : List ℕ) (i j v : ℕ) → i ≢ j → slice_get (set xs i v) j ≡ slice_get xs j
slice_get-set_other [] zero j v h = refl
slice_get-set_other [] (suc i) j v h = refl
slice_get-set_other (x ∷ xs) zero zero v h = absurd (h refl)
slice_get-set_other (x ∷ xs) zero (suc j) v h = refl
slice_get-set_other (x ∷ xs) (suc i) zero v h = refl
slice_get-set_other (x ∷ xs) (suc i) (suc j) v h = slice_get-set_other xs i j v (λ e. h (ap suc e))

pub slice_get-front : (xs ys : List ℕ) (i v : ℕ) → slice_get xs i ≡ Some v → slice_get (xs ++ ys) i ≡ Some v
slice_get-front [] ys i v h = absurd cc
slice_get-front (x ∷ xs) ys zero v h = h
slice_get-front (x ∷ xs) ys (suc i) v h = slice_get-front xs ys i v h

-- the place of each number stands in the list of places
abbrev pub Inverts : List ℕ → List ℕ → Type 0
Inverts ns places = (p : ℕ) → p < length ns → slice_get places (get_or ns p 0) ≡ Some p

apart_of : (ns places : List ℕ) (p r : ℕ) → Inverts ns places → p < length ns → r < length ns → get_or ns p 0 ≡ get_or ns r 0 → p ≡ r
apart_of ns places p r inverts hp hr same =
    let both : Some p ≡ Some r = sym (inverts p hp) ∙ ap (slice_get places) same ∙ inverts r hr in
    cc

-- a place is before i, at i or after i
data Where (i p : ℕ) : Type 0 where
  before : p < i → Where i p
  here : p ≡ i → Where i p
  behind : (r : ℕ) → p ≡ r + 1 → i ≤ r → Where i p

where_is : (i p : ℕ) → Where i p
where_is i p = by_test (nat_lt p i) refl (nat_lt i p) refl where
  by_test : (a : Bool) → nat_lt p i ≡ a → (b : Bool) → nat_lt i p ≡ b → Where i p
  by_test true lt b is = before (ltb-true _ _ lt)
  by_test false ge true gt = let more : i < p = ltb-true _ _ gt in behind (p - 1) (omega arith) (omega arith)
  by_test false ge false le = let more : p ≤ i = ltb-false _ _ le in let less : i ≤ p = ltb-false _ _ ge in here (omega arith)

-- the number at a place of the longer row
at_before : (ns : List ℕ) (i p m : ℕ) → p < i → i ≤ length ns → get_or (insert ns i m) p 0 ≡ get_or ns p 0
at_before ns i p m lt w = get_or-insert_below ns i m 0 p lt w

at_here : (ns : List ℕ) (i p m : ℕ) → p ≡ i → i ≤ length ns → get_or (insert ns i m) p 0 ≡ m
at_here ns i p m is w = ap (λ k. get_or (insert ns i m) k 0) is ∙ get_or-insert_at ns i m 0 w

at_behind : (ns : List ℕ) (i p r m : ℕ) → p ≡ r + 1 → i ≤ r → i ≤ length ns → get_or (insert ns i m) p 0 ≡ get_or ns r 0
at_behind ns i p r m is le w = ap (λ k. get_or (insert ns i m) k 0) is ∙ get_or-insert_above ns i m 0 r le w

pub few_numbers : (ns places : List ℕ) (p : ℕ) → Inverts ns places → length places ≡ length ns → p < length ns → get_or ns p 0 < length ns
few_numbers ns places p inverts many h = let few = slice_get_within places (get_or ns p 0) p (inverts p h) in omega arith

-- a new number among the others: all are below their count
pub inserted_known : (ns places : List ℕ) (i p : ℕ) → Inverts ns places → length places ≡ length ns → i ≤ length ns → p < length ns + 1 → get_or (insert ns i (length ns)) p 0 < length ns + 1
inserted_known ns places i p inverts many w hp = by_place (where_is i p) where
  by_place : Where i p → get_or (insert ns i (length ns)) p 0 < length ns + 1
  by_place (before lt) = let is = at_before ns i p (length ns) lt w in let few = few_numbers ns places p inverts many (omega arith) in omega arith
  by_place (here e) = let is = at_here ns i p (length ns) e w in omega arith
  by_place (behind r e le) = let is = at_behind ns i p r (length ns) e le w in let few = few_numbers ns places r inverts many (omega arith) in omega arith

-- and no two are equal
pub inserted_apart : (ns places : List ℕ) (i p r : ℕ) → Inverts ns places → length places ≡ length ns → i ≤ length ns → p < length ns + 1 → r < length ns + 1
    → get_or (insert ns i (length ns)) p 0 ≡ get_or (insert ns i (length ns)) r 0 → p ≡ r
inserted_apart ns places i p r inverts many w hp hr same = by_places (where_is i p) (where_is i r) where
  by_places : Where i p → Where i r → p ≡ r
  by_places (before lp) (before lr) = apart_of ns places p r inverts (omega arith) (omega arith) (sym (at_before ns i p (length ns) lp w) ∙ same ∙ at_before ns i r (length ns) lr w)
  by_places (before lp) (here er) =
      let is : get_or ns p 0 ≡ length ns = sym (at_before ns i p (length ns) lp w) ∙ same ∙ at_here ns i r (length ns) er w in
      let few = few_numbers ns places p inverts many (omega arith) in absurd (omega arith)
  by_places (before lp) (behind k er le) =
      let is : p ≡ k = apart_of ns places p k inverts (omega arith) (omega arith) (sym (at_before ns i p (length ns) lp w) ∙ same ∙ at_behind ns i r k (length ns) er le w) in
      absurd (omega arith)
  by_places (here ep) (before lr) =
      let is : get_or ns r 0 ≡ length ns = sym (at_before ns i r (length ns) lr w) ∙ sym same ∙ at_here ns i p (length ns) ep w in
      let few = few_numbers ns places r inverts many (omega arith) in absurd (omega arith)
  by_places (here ep) (here er) = ep ∙ sym er
  by_places (here ep) (behind k er le) =
      let is : get_or ns k 0 ≡ length ns = sym (at_behind ns i r k (length ns) er le w) ∙ sym same ∙ at_here ns i p (length ns) ep w in
      let few = few_numbers ns places k inverts many (omega arith) in absurd (omega arith)
  by_places (behind k ep le) (before lr) =
      let is : k ≡ r = apart_of ns places k r inverts (omega arith) (omega arith) (sym (at_behind ns i p k (length ns) ep le w) ∙ same ∙ at_before ns i r (length ns) lr w) in
      absurd (omega arith)
  by_places (behind k ep le) (here er) =
      let is : get_or ns k 0 ≡ length ns = sym (at_behind ns i p k (length ns) ep le w) ∙ same ∙ at_here ns i r (length ns) er w in
      let few = few_numbers ns places k inverts many (omega arith) in absurd (omega arith)
  by_places (behind k ep le) (behind j er more) =
      let is : k ≡ j = apart_of ns places k j inverts (omega arith) (omega arith) (sym (at_behind ns i p k (length ns) ep le w) ∙ same ∙ at_behind ns i r j (length ns) er more w) in
      omega arith

-- before the new one the places are known already
pub inserted_before : (ns places : List ℕ) (i p m v : ℕ) → Inverts ns places → i ≤ length ns → p < i → slice_get (places ++ v ∷ []) (get_or (insert ns i m) p 0) ≡ Some p
inserted_before ns places i p m v inverts w lt =
    ap (slice_get (places ++ v ∷ [])) (at_before ns i p m lt w) ∙ slice_get-front places (v ∷ []) (get_or ns p 0) p (inverts p (omega arith))

-- one more place is written
pub one_more_place : (ns places : List ℕ) (i p : ℕ) → get_or ns i 0 < length places → (get_or ns i 0 ≡ get_or ns p 0 → i ≡ p) → p < i + 1
    → (p < i → slice_get places (get_or ns p 0) ≡ Some p) → slice_get (set places (get_or ns i 0) i) (get_or ns p 0) ≡ Some p
one_more_place ns places i p there apart few known = by_test (nat_lt p i) refl where
  by_test : (b : Bool) → nat_lt p i ≡ b → slice_get (set places (get_or ns i 0) i) (get_or ns p 0) ≡ Some p
  by_test true is =
      let lt : p < i = ltb-true _ _ is in
      slice_get-set_other places (get_or ns i 0) (get_or ns p 0) i (λ e. let eq = apart e in absurd (omega arith)) ∙ known lt
  by_test false is =
      let ge : i ≤ p = ltb-false _ _ is in
      let e : i ≡ p = omega arith in
      ap (slice_get (set places (get_or ns i 0) i)) (ap (λ k. get_or ns k 0) (sym e)) ∙ slice_get-set_same places (get_or ns i 0) i there ∙ ap Some e
