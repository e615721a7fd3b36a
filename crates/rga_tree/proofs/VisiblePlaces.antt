-- Where the visible elements of parts stand.
use Rattle.std.proofs.Common.{◌≡◌, ℕ, zero, suc, ◌<◌, ◌+◌, true, false, cond, not, List, [], ◌∷◌, ◌++◌, length, take, drop, get_or, Some, refl, sym, ap, ◌∙◌, zero-add, arith}
use Rattle.std.specs.Prelude.{filter, slice_get, map as each}
use Rattle.std.proofs.lemmas.List.{drop-map}
use Rattle.std.proofs.lemmas.List.Filters.{length-filter_more}
use Rattle.std.proofs.lemmas.Option.{get_or_from_slice_get, slice_get_within}
use Rattle.bg_types.specs.OperationSet.{OperationSet}
use Rattle.bg_types.specs.declared.op.Place.TheVariants.{Root}
use Rattle.rga_tree.specs.declared.element.Element.{Element}
use Rattle.rga_tree.specs.Walk.{walk}
use Rattle.rga_tree.specs.TextOf.{visible, visible_ids}
use Rattle.rga_tree.specs.Elements.{element_of, elements}
use Rattle.rga_tree.specs.Row.{shown_ids}
use Rattle.rga_tree.specs.Spot.{seen, seen_all, IsVisiblePlace, joined, from_spot}
use Rattle.rga_tree.proofs.WalkAmong.{Entry}
use Rattle.rga_tree.proofs.Seen.{filter_seen}

-- one more element
pub seen-more : (es : List Element) (j : ℕ) (e : Element) → slice_get es j ≡ Some e → seen (take (j + 1) es) ≡ seen (take j es) + cond e.hidden 0 1
seen-more es j e is =
    let one : ◌≡◌ {A = ℕ} (cond (not e.hidden) 1 0) (cond e.hidden 0 1) = elim e.hidden as (λ h. ◌≡◌ {A = ℕ} (cond (not h) 1 0) (cond h 0 1)) [ true ↦ refl | false ↦ refl ] in
    length-filter_more (λ x. not x.hidden) es j e (slice_get_within es j e is)
    ∙ ap (λ (x : Element). seen (take j es) + cond (not x.hidden) 1 0) (get_or_from_slice_get es j e e is) ∙ ap (λ n. seen (take j es) + n) one

-- ---- the visible elements of all parts

in_first : (x r : List Element) (j : ℕ) (e : Element) → slice_get x j ≡ Some e → e.hidden ≡ false → slice_get (filter (λ e. not e.hidden) (x ++ r)) (seen (take j x)) ≡ Some e
in_first [] r j e is shown = absurd cc
in_first (y ∷ x) r zero e is shown =
    let same : y ≡ e = cc in
    let f = filter (λ e. not e.hidden) (x ++ r) in
    ap (λ h. slice_get (cond (not h) (y ∷ f) f) 0) (ap (λ (z : Element). z.hidden) same ∙ shown) ∙ is
in_first (y ∷ x) r (suc j) e is shown =
    let f = filter (λ e. not e.hidden) (x ++ r) in
    let g = filter (λ e. not e.hidden) (take j x) in
    let rest = in_first x r j e is shown in
    elim y.hidden as (λ h. slice_get (cond (not h) (y ∷ f) f) (length (cond (not h) (y ∷ g) g)) ≡ Some e) [ true ↦ rest | false ↦ rest ]

past_first : (x r : List Element) (n : ℕ) → slice_get (filter (λ e. not e.hidden) (x ++ r)) (seen x + n) ≡ slice_get (filter (λ e. not e.hidden) r) n
past_first [] r n = rw (zero-add n) refl
past_first (y ∷ x) r n =
    let f = filter (λ e. not e.hidden) (x ++ r) in
    let g = filter (λ e. not e.hidden) x in
    let rest = past_first x r n in
    let s : suc (length g) + n ≡ suc (length g + n) = omega arith in
    elim y.hidden as (λ h. slice_get (cond (not h) (y ∷ f) f) (length (cond (not h) (y ∷ g) g) + n) ≡ slice_get (filter (λ e. not e.hidden) r) n) [ true ↦ rest | false ↦ rw s rest ]

visible_in : (bs : List (List Element)) (b j : ℕ) (e : Element) → slice_get (get_or bs b []) j ≡ Some e → e.hidden ≡ false
    → slice_get (filter (λ e. not e.hidden) (joined bs)) (seen_all (take b bs) + seen (take j (get_or bs b []))) ≡ Some e
visible_in [] b j e is shown = absurd cc
visible_in (x ∷ bs) zero j e is shown = rw (zero-add (seen (take j x))) (in_first x (joined bs) j e is shown)
visible_in (x ∷ bs) (suc b) j e is shown =
    let n = seen_all (take b bs) + seen (take j (get_or bs b [])) in
    let s : seen x + seen_all (take b bs) + seen (take j (get_or bs b [])) ≡ seen x + n = omega arith in
    rw s (past_first x (joined bs) n ∙ visible_in bs b j e is shown)

pub visible_at : (bs : List (List Element)) (k b j : ℕ) (e : Element) → IsVisiblePlace bs k b j e → slice_get (filter (λ e. not e.hidden) (joined bs)) k ≡ Some e
visible_at bs k b j e place = ap (slice_get (filter (λ e. not e.hidden) (joined bs))) (sym place.before) ∙ visible_in bs b j e place.there place.visible

-- ---- what is visible from a place on

rest_of : (x r : List Element) (j : ℕ) → drop (seen (take j x)) (filter (λ e. not e.hidden) (x ++ r)) ≡ filter (λ e. not e.hidden) (drop j x ++ r)
rest_of [] r zero = refl
rest_of [] r (suc j) = refl
rest_of (y ∷ x) r zero = refl
rest_of (y ∷ x) r (suc j) =
    let f = filter (λ e. not e.hidden) (x ++ r) in
    let g = filter (λ e. not e.hidden) (take j x) in
    let rest = rest_of x r j in
    elim y.hidden as (λ h. drop (length (cond (not h) (y ∷ g) g)) (cond (not h) (y ∷ f) f) ≡ filter (λ e. not e.hidden) (drop j x ++ r)) [ true ↦ rest | false ↦ rest ]

rest_past : (x r : List Element) (n : ℕ) → drop (seen x + n) (filter (λ e. not e.hidden) (x ++ r)) ≡ drop n (filter (λ e. not e.hidden) r)
rest_past [] r n = rw (zero-add n) refl
rest_past (y ∷ x) r n =
    let f = filter (λ e. not e.hidden) (x ++ r) in
    let g = filter (λ e. not e.hidden) x in
    let rest = rest_past x r n in
    let s : suc (length g) + n ≡ suc (length g + n) = omega arith in
    elim y.hidden as (λ h. drop (length (cond (not h) (y ∷ g) g) + n) (cond (not h) (y ∷ f) f) ≡ drop n (filter (λ e. not e.hidden) r)) [ true ↦ rest | false ↦ rw s rest ]

rest_in : (parts : List (List Element)) (p j : ℕ) → drop (seen_all (take p parts) + seen (take j (get_or parts p []))) (filter (λ e. not e.hidden) (joined parts))
    ≡ filter (λ e. not e.hidden) (drop j (get_or parts p []) ++ joined (drop (suc p) parts))
rest_in [] zero zero = refl
rest_in [] zero (suc j) = refl
rest_in [] (suc p) zero = refl
rest_in [] (suc p) (suc j) = refl
rest_in (x ∷ parts) zero j = rw (zero-add (seen (take j x))) (rest_of x (joined parts) j)
rest_in (x ∷ parts) (suc p) j =
    let n = seen_all (take p parts) + seen (take j (get_or parts p [])) in
    let s : seen x + seen_all (take p parts) + seen (take j (get_or parts p [])) ≡ seen x + n = omega arith in
    rw s (rest_past x (joined parts) n ∙ rest_in parts p j)

-- the visible identifiers from the place of visible element k on
pub from_place : (parts : List (List Element)) (k p j : ℕ) (e : Element) → IsVisiblePlace parts k p j e → shown_ids (from_spot parts p j) ≡ drop k (shown_ids (joined parts))
from_place parts k p j e place =
    let next : p + 1 ≡ suc p = omega arith in
    ap (λ n. shown_ids (drop j (get_or parts p []) ++ joined (drop n parts))) next
    ∙ ap (each (λ (x : Element). x.id)) (sym (rest_in parts p j) ∙ ap (λ n. drop n (filter (λ e. not e.hidden) (joined parts))) place.before)
    ∙ sym (drop-map (λ (x : Element). x.id) k (filter (λ e. not e.hidden) (joined parts)))

pub shown_elements : (s : OperationSet) → shown_ids (elements s) ≡ visible_ids s
shown_elements s = ap (each (λ (x : Element). x.id)) (filter_seen s (walk s Root)) ∙ by (visible s)
  where
    by : (es : List Entry) → each (λ (x : Element). x.id) (each (element_of s) es) ≡ each (λ (x : Entry). x.0) es
    by [] = refl
    by (e ∷ es) = ap (λ l. e.0 ∷ l) (by es)

-- that place is there
pub place_within : (parts : List (List Element)) (k p j : ℕ) (e : Element) → IsVisiblePlace parts k p j e → (p < length parts) × (j < length (get_or parts p []))
place_within parts k p j e place = by parts p place.there
  where
    by : (parts : List (List Element)) (p : ℕ) → slice_get (get_or parts p []) j ≡ Some e → (p < length parts) × (j < length (get_or parts p []))
    by [] p is = absurd cc
    by (x ∷ parts) zero is = (omega arith, slice_get_within x j e is)
    by (x ∷ parts) (suc p) is = let rest = by parts p is in (omega (arith, rest.0), rest.1)
