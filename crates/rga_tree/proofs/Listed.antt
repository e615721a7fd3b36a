-- Which entries and identifiers a list has.
use Rattle.std.proofs.Common.{◌≡◌, ℕ, zero, suc, ◌<◌, ◌⊎◌, inl, inr, Bool, true, false, cond, ◌||◌, List, [], ◌∷◌, ◌++◌, length, Some, refl, sym, ap, subst, ◌∙◌, arith}
use Rattle.std.specs.Prelude.{map as each, filter, reverse, Contains, slice_index_or}
use Rattle.std.specs.List.{AllByRecursion, list_any, flat_map}
use Rattle.std.proofs.lemmas.List.{reverse-append}
use Rattle.std.specs.FinMap.Entries.{find}
use Rattle.bg_types.specs.Identifier.{Identifier, id_cmp, same_id}
use Rattle.bg_types.specs.OperationSet.{Node}
use Rattle.bg_types.proofs.Interface.{same_id-is, same_id-itself}
use Rattle.rga_tree.proofs.WalkAmong.{Entry}
use Rattle.std.proofs.lemmas.Bool.{or_left, or_right}

-- the entry stands in the list
abbrev pub IsIn : Entry → List Entry → Type 0
IsIn e [] = ⊥
IsIn e (x ∷ xs) = (x ≡ e) ⊎ IsIn e xs

pub IsIn-left : (e : Entry) (xs ys : List Entry) → IsIn e xs → IsIn e (xs ++ ys)
IsIn-left e [] ys h = absurd h
IsIn-left e (x ∷ xs) ys (inl h) = inl h
IsIn-left e (x ∷ xs) ys (inr h) = inr (IsIn-left e xs ys h)

pub IsIn-right : (e : Entry) (xs ys : List Entry) → IsIn e ys → IsIn e (xs ++ ys)
IsIn-right e [] ys h = h
IsIn-right e (x ∷ xs) ys h = inr (IsIn-right e xs ys h)

pub IsIn-reverse : (e : Entry) (xs : List Entry) → IsIn e xs → IsIn e (reverse xs)
IsIn-reverse e [] h = absurd h
IsIn-reverse e (x ∷ xs) (inl h) = rw (reverse-append (x ∷ []) xs) (IsIn-right e (reverse xs) (x ∷ []) (inl h))
IsIn-reverse e (x ∷ xs) (inr h) = rw (reverse-append (x ∷ []) xs) (IsIn-left e (reverse xs) (x ∷ []) (IsIn-reverse e xs h))

pub IsIn-filter : (e : Entry) (p : Entry → Bool) (xs : List Entry) → p e ≡ true → IsIn e xs → IsIn e (filter p xs)
IsIn-filter e p [] passes h = absurd h
IsIn-filter e p (x ∷ xs) passes (inl h) =
    let here : p x ≡ true = ap p h ∙ passes in
    subst (λ b. IsIn e (cond b (x ∷ filter p xs) (filter p xs))) (sym here) (inl h)
IsIn-filter e p (x ∷ xs) passes (inr h) =
    let rest = IsIn-filter e p xs passes h in
    elim (p x) as (λ b. IsIn e (cond b (x ∷ filter p xs) (filter p xs))) [ true ↦ inr rest | false ↦ rest ]

-- what is found at an identifier is in the list
pub IsIn-found : (q : Identifier) (node : Node) (es : List Entry) → find id_cmp q es ≡ Some node → IsIn (q, node) es
IsIn-found q node [] h = absurd cc
IsIn-found q node (x ∷ es) h =
    elim (same_id q x.0) as (λ b. same_id q x.0 ≡ b → cond b (Some x.1) (find id_cmp q es) ≡ Some node → IsIn (q, node) (x ∷ es)) [
      | true ↦ λ here h. let same : x.1 ≡ node = cc in let id = same_id-is q x.0 here in inl (λ i. (sym id i, same i))
      | false ↦ λ _ h. inr (IsIn-found q node es h)
    ] refl h

-- the identifier stands in the list
abbrev pub is_listed : Identifier → List Entry → Bool
is_listed a es = list_any (λ e. same_id a e.0) es

pub listed-append : (a : Identifier) (xs ys : List Entry) → is_listed a (xs ++ ys) ≡ (is_listed a xs || is_listed a ys)
listed-append a [] ys = refl
listed-append a (x ∷ xs) ys = ap (λ b. same_id a x.0 || b) (listed-append a xs ys) ∙ or_assoc (same_id a x.0) (is_listed a xs) (is_listed a ys) where
  or_assoc : (p q r : Bool) → (p || (q || r)) ≡ ((p || q) || r)
  or_assoc true q r = refl
  or_assoc false q r = refl

-- listed in what one of them gives
pub listed-flat_map : (a : Identifier) (f : Entry → List Entry) (e : Entry) (xs : List Entry) → IsIn e xs → is_listed a (f e) ≡ true → is_listed a (flat_map f xs) ≡ true
listed-flat_map a f e [] h at = absurd h
listed-flat_map a f e (x ∷ xs) (inl h) at = listed-append a (f x) (flat_map f xs) ∙ or_left (is_listed a (f x)) (is_listed a (flat_map f xs)) (ap (λ y. is_listed a (f y)) h ∙ at)
listed-flat_map a f e (x ∷ xs) (inr h) at = listed-append a (f x) (flat_map f xs) ∙ or_right (is_listed a (f x)) (is_listed a (flat_map f xs)) (listed-flat_map a f e xs h at)

-- what holds of each holds of what is listed
pub all_listed : (P : Identifier → Type 0) (es : List Entry) (a : Identifier) → AllByRecursion (λ e. P e.0) es → is_listed a es ≡ true → P a
all_listed P [] a h at = absurd cc
all_listed P (e ∷ es) a h at =
    elim (same_id a e.0) as (λ b. same_id a e.0 ≡ b → (b || is_listed a es) ≡ true → P a) [
      | true ↦ λ here _. subst P (sym (same_id-is a e.0 here)) h.0
      | false ↦ λ _ at. all_listed P es a h.1 at
    ] refl at

pub Contains-listed : (a : Identifier) (es : List Entry) → is_listed a es ≡ true → Contains (each (λ e. e.0) es) a
Contains-listed a [] h = absurd cc
Contains-listed a (e ∷ es) h =
    elim (same_id a e.0) as (λ b. same_id a e.0 ≡ b → (b || is_listed a es) ≡ true → Contains (each (λ e. e.0) (e ∷ es)) a) [
      | true ↦ λ here _. (zero, omega arith, sym (same_id-is a e.0 here))
      | false ↦ λ _ h. let rest = Contains-listed a es h in (suc rest.0, omega (arith, rest.1), rest.2)
    ] refl h

pub listed-contains : (a : Identifier) (es : List Entry) → Contains (each (λ e. e.0) es) a → is_listed a es ≡ true
listed-contains a es c = by_place es c.0 c.1 c.2 where
  by_place : (es : List Entry) (k : ℕ) → k < length (each (λ (e : Entry). e.0) es) → slice_index_or (each (λ (e : Entry). e.0) es) k a ≡ a → is_listed a es ≡ true
  by_place [] k within is = absurd (omega arith)
  by_place (e ∷ es) zero within is = or_left (same_id a e.0) (is_listed a es) (ap (same_id a) is ∙ same_id-itself a)
  by_place (e ∷ es) (suc k) within is = or_right (same_id a e.0) (is_listed a es) (by_place es k (omega arith) is)
