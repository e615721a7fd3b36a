-- Visible characters from a place on are erased.
use Rattle.std.proofs.Common.{◌≡◌, ◌≤◌, ◌<◌, ◌+◌, ◌-◌, ℕ, zero, suc, true, false, cond, not, List, [], ◌∷◌, ◌++◌, length, take, drop, Some, None, refl, sym, ap, subst, ◌∙◌, append_assoc, is_some, arith}
use Rattle.std.specs.Prelude.{All, slice_get, filter, remove, map as each}
use Rattle.std.specs.List.{AllByRecursion, flat_map}
use Rattle.std.proofs.lemmas.List.{take-append-drop, map-append, take-map, drop-map, length-map}
use Rattle.std.proofs.lemmas.List.Elements.{All-from_recursion}
use Rattle.bg_types.specs.Identifier.{Identifier}
use Rattle.bg_types.specs.OperationSet.{OperationSet, AllWellFormed, next, size, with_operation}
use Rattle.bg_types.specs.WellFormed.{IsWellFormed}
use Rattle.bg_types.specs.declared.op.Place.{Place}
use Rattle.bg_types.specs.declared.op.Place.TheVariants.{Root, After}
use Rattle.bg_types.specs.declared.op.OpView.{OpView}
use Rattle.bg_types.specs.declared.op.OpView.TheVariants.{Insert, Erase}
use Rattle.bg_types.proofs.Interface.{size-with_operation}
use Rattle.rga_tree.specs.declared.element.Element.{Element}
use Rattle.rga_tree.specs.TextOf.{text, visible, visible_ids}
use Rattle.rga_tree.specs.Tree.{stands_in}
use Rattle.rga_tree.specs.Elements.{elements}
use Rattle.rga_tree.specs.Row.{shown_ids}
use Rattle.rga_tree.specs.Spot.{IsVisiblePlace, from_spot}
use Rattle.rga_tree.proofs.Interface.{Entry, AllWellFormed-with, from_place, shown_elements}
use Rattle.pending_ops.specs.Waiting.{Waiting}
use Rattle.desk_replica.specs.Placement.{IsSettled, whole}
use Rattle.desk_replica.specs.Replacement.{MayHide, deletions}
use Rattle.desk_replica.specs.Merging.{with_operations}
use Rattle.desk_replica.proofs.Admitting.{hidden_settled, hidden_whole}
use Rattle.desk_replica.proofs.Erasing.{next_erased, visible_kept}
use Rattle.desk_replica.proofs.Lists.{slice_get-within}
use Rattle.desk_replica.proofs.Typed.{each-remove}
use Rattle.desk_replica.proofs.Typing.{visible_erased, erasure_new}

-- ---- a list without the element at a place

drop-remove : {X : Type 0} (xs : List X) (k m : ℕ) → k < length xs → k ≤ m → drop m (remove xs k) ≡ drop (suc m) xs
drop-remove [] k m h le = absurd (omega arith)
drop-remove (x ∷ xs) zero m h le = refl
drop-remove (x ∷ xs) (suc k) zero h le = absurd (omega arith)
drop-remove (x ∷ xs) (suc k) (suc m) h le = drop-remove xs k m (omega arith) (omega arith)

take-remove : {X : Type 0} (xs : List X) (k : ℕ) → take k (remove xs k) ≡ take k xs
take-remove [] zero = refl
take-remove [] (suc k) = refl
take-remove (x ∷ xs) zero = refl
take-remove (x ∷ xs) (suc k) = ap (λ l. x ∷ l) (take-remove xs k)

length-remove : {X : Type 0} (xs : List X) (k : ℕ) → k < length xs → length (remove xs k) + 1 ≡ length xs
length-remove [] k h = absurd (omega arith)
length-remove (x ∷ xs) zero h = omega arith
length-remove (x ∷ xs) (suc k) h = let rest = length-remove xs k (omega arith) in omega arith

drop-at : {X : Type 0} (xs : List X) (k : ℕ) (x : X) → slice_get xs k ≡ Some x → drop k xs ≡ x ∷ drop (suc k) xs
drop-at [] zero x h = absurd (let e : None ≡ Some x = h in cc)
drop-at [] (suc k) x h = absurd (let e : None ≡ Some x = h in cc)
drop-at (y ∷ xs) zero x h = let e : y ≡ x = cc in ap (λ z. z ∷ xs) e
drop-at (y ∷ xs) (suc k) x h = drop-at xs k x h

-- ---- a stretch that is erased

within-at : {X : Type 0} (xs : List X) (k : ℕ) (x : X) → slice_get xs k ≡ Some x → k < length xs
within-at [] zero x h = absurd (let e : None ≡ Some x = h in cc)
within-at [] (suc k) x h = absurd (let e : None ≡ Some x = h in cc)
within-at (y ∷ xs) zero x h = omega arith
within-at (y ∷ xs) (suc k) x h = omega (arith, within-at xs k x h)

pub visible_at : (s : OperationSet) (k : ℕ) (x : Identifier) → slice_get (visible_ids s) k ≡ Some x → k < length (visible s)
visible_at s k x at = omega (arith, within-at (visible_ids s) k x at, length-map (visible s) (λ (e : Entry). e.0))

module _ (k : ℕ) where
  pub erased_then : (n : ℕ) (s : OperationSet) (x : Identifier) → AllWellFormed s → k < length (visible s) → slice_get (visible_ids s) k ≡ Some x → deletions s k (suc n) ≡ Erase x ∷ deletions (with_operation s (Erase x)) k n
  erased_then n s x well lt at =
      let ids : visible_ids (with_operation s (Erase x)) ≡ remove (visible_ids s) k = ap (each (λ (e : Entry). e.0)) (visible_erased s k x well at) ∙ each-remove (λ (e : Entry). e.0) (visible s) k in
      let many = length-map (visible s) (λ (e : Entry). e.0) in
      let rest : drop (suc k) (visible_ids s) ≡ drop k (visible_ids (with_operation s (Erase x))) =
      sym (drop-remove (visible_ids s) k k (omega (arith, many, lt)) (omega arith)) ∙ ap (drop k) (sym ids) in
      ap (λ l. each Erase (take (suc n) l)) (drop-at (visible_ids s) k x at) ∙ ap (λ l. Erase x ∷ each Erase (take n l)) rest

-- s with n visible characters from place k on erased is t
pub record IsErased (s t : OperationSet) (k n : ℕ) : Type 0 where
  pub visible_is : visible t ≡ take k (visible s) ++ drop (k + n) (visible s)
  pub next_is : next t ≡ next s
  pub size_is : size t ≡ size s + n
  pub well : AllWellFormed t

pub target_formed : (s : OperationSet) (k : ℕ) (x : Identifier) → AllWellFormed s → slice_get (visible_ids s) k ≡ Some x → IsWellFormed (Erase x)
target_formed s k x well at = let kept = visible_kept s k x at in (well (Insert x kept.0.parent kept.0.ch) kept.1).0

module _ (s : OperationSet) (k n : ℕ) (well : AllWellFormed s) (there : k < length (visible s)) (x : Identifier) (at : slice_get (visible_ids s) k ≡ Some x) where
  abbrev t : OperationSet
  t = with_operation s (Erase x)

  seen : visible t ≡ remove (visible s) k
  seen = visible_erased s k x well at

  well_then : AllWellFormed t
  well_then = AllWellFormed-with s (Erase x) well (target_formed s k x well at)

  within_then : k + suc n ≤ length (visible s) → k + n ≤ length (visible t)
  within_then within = let fewer = length-remove (visible s) k there in let shorter = ap length seen in omega (arith, fewer, shorter, within)

  one_less : IsErased t (with_operations t (deletions t k n)) k n → IsErased s (with_operations s (deletions s k (suc n))) k (suc n)
  one_less later =
      let up : suc (k + n) ≡ k + suc n = omega arith in
      subst (λ ops. IsErased s (with_operations s ops) k (suc n)) (sym (erased_then k n s x well there at)) (record {
        visible_is = later.visible_is ∙ (λ i. take k (seen i) ++ drop (k + n) (seen i))
            ∙ (λ i. take-remove (visible s) k i ++ drop-remove (visible s) k (k + n) there (omega arith) i)
            ∙ ap (λ m. take k (visible s) ++ drop m (visible s)) up;
        next_is = later.next_is ∙ next_erased s k x at;
        size_is = let one = size-with_operation s (Erase x) tt (λ h. absurd (let no = erasure_new s k x at in cc)) in omega (arith, one, later.size_is);
        well = later.well;
      })

pub erased : (n : ℕ) (s : OperationSet) (k : ℕ) → AllWellFormed s → k + n ≤ length (visible s) → IsErased s (with_operations s (deletions s k n)) k n
erased zero s k well within =
    let same : k + 0 ≡ k = omega arith in
    record {
      visible_is = sym (ap (λ m. take k (visible s) ++ drop m (visible s)) same ∙ take-append-drop k (visible s));
      next_is = refl;
      size_is = omega arith;
      well = well;
    }
erased (suc n) s k well within =
    let there : k < length (visible s) = omega (arith, within) in
    let x = slice_get-within (visible_ids s) k (omega (arith, there, length-map (visible s) (λ (e : Entry). e.0))) in
    one_less s k n well there x.0 x.1
    (erased n (with_operation s (Erase x.0)) k (well_then s k n well there x.0 x.1) (within_then s k n well there x.0 x.1 within))

-- ---- the deletions of what is visible in the tree

ids_from : (ids : List Identifier) (k n : ℕ) (P : OpView → Type 0) → k + n ≤ length ids → ((j : ℕ) (x : Identifier) → slice_get ids j ≡ Some x → P (Erase x)) → AllByRecursion P (each Erase (take n (drop k ids)))
ids_from ids k zero P within each_is = tt
ids_from ids k (suc n) P within each_is =
    let x = slice_get-within ids k (omega (arith, within)) in
    subst (λ l. AllByRecursion P (each Erase (take (suc n) l))) (sym (drop-at ids k x.0 x.1)) (each_is k x.0 x.1, ids_from ids (suc k) n P (omega (arith, within)) each_is)

-- a fact of each deletion of a visible character is one of all of them
pub all_deletions : (s : OperationSet) (k n : ℕ) (P : OpView → Type 0) → k + n ≤ length (visible s) → ((j : ℕ) (x : Identifier) → slice_get (visible_ids s) j ≡ Some x → P (Erase x)) → All P (deletions s k n)
all_deletions s k n P within each_is =
    All-from_recursion P (deletions s k n) (ids_from (visible_ids s) k n P (omega (arith, within, length-map (visible s) (λ (e : Entry). e.0))) each_is)

pub may_hide : (t : OperationSet) (k n : ℕ) → k + n ≤ length (visible t) → All (MayHide t) (deletions t k n)
may_hide t k n within = all_deletions t k n (MayHide t) within (λ j x at. ap is_some (visible_kept t j x at).1)

-- hiding them leaves what waits, and what stands in the tree
pub hidden_whole_all : (ids : List Identifier) (t : OperationSet) (w : Waiting) → whole (with_operations t (each Erase ids)) w ≡ with_operations (whole t w) (each Erase ids)
hidden_whole_all [] t w = refl
hidden_whole_all (x ∷ ids) t w = hidden_whole_all ids (with_operation t (Erase x)) w ∙ ap (λ s. with_operations s (each Erase ids)) (hidden_whole t (with_operation t (Erase x)) w x refl)

pub hidden_settled_all : (ids : List Identifier) (t : OperationSet) (w : Waiting) → IsSettled t w → IsSettled (with_operations t (each Erase ids)) w
hidden_settled_all [] t w d = d
hidden_settled_all (x ∷ ids) t w d = hidden_settled_all ids (with_operation t (Erase x)) w (hidden_settled t (with_operation t (Erase x)) w x refl d)

pub stands_still : (ids : List Identifier) (t : OperationSet) (p : Place) → stands_in (with_operations t (each Erase ids)) p ≡ stands_in t p
stands_still [] t p = refl
stands_still (x ∷ ids) t p = stands_still ids (with_operation t (Erase x)) p ∙ one p
  where
    one : (p : Place) → stands_in (with_operation t (Erase x)) p ≡ stands_in t p
    one Root = refl
    one (After a) = refl

-- ---- the deletions of what is visible are listed

module _ (row : List Element) (i : ℕ) (e : Element) (at : drop i row ≡ e ∷ drop (i + 1) row) where
  abbrev later : List Element
  later = filter (λ e. not e.hidden) (drop (i + 1) row)

  pub passed_one : e.hidden ≡ true → shown_ids (drop i row) ≡ shown_ids (drop (i + 1) row)
  passed_one hidden = ap shown_ids at ∙ ap (λ h. each (λ (x : Element). x.id) (cond (not h) (e ∷ later) later)) hidden

  shown_one : e.hidden ≡ false → shown_ids (drop i row) ≡ e.id ∷ shown_ids (drop (i + 1) row)
  shown_one shows = ap shown_ids at ∙ ap (λ h. each (λ (x : Element). x.id) (cond (not h) (e ∷ later) later)) shows

  pub one_fewer : e.hidden ≡ false → length (shown_ids (drop i row)) ≡ length (shown_ids (drop (i + 1) row)) + 1
  one_fewer shows = let l = ap length (shown_one shows) in omega (arith, l)

  pub listed_one : (told more : List OpView) (left fewer : ℕ) → e.hidden ≡ false → more ≡ told ++ Erase e.id ∷ [] → fewer + 1 ≡ left
      → more ++ each Erase (take fewer (shown_ids (drop (i + 1) row))) ≡ told ++ each Erase (take left (shown_ids (drop i row)))
  listed_one told more left fewer shows more_is is =
      let rest = each Erase (take fewer (shown_ids (drop (i + 1) row))) in
      let one : suc fewer ≡ left = omega (arith, is) in
      ap (λ l. l ++ rest) more_is ∙ append_assoc told (Erase e.id ∷ []) rest
      ∙ ap (λ n. told ++ each Erase (take n (e.id ∷ shown_ids (drop (i + 1) row)))) one
      ∙ ap (λ l. told ++ each Erase (take left l)) (sym (shown_one shows))

take-append : {X : Type 0} (n : ℕ) (xs ys : List X) → take n (xs ++ ys) ≡ take n xs ++ take (n - length xs) ys
take-append zero [] ys = refl
take-append zero (x ∷ xs) ys = let none : zero - length (x ∷ xs) ≡ zero = omega arith in ap (λ m. take m ys) (sym none)
take-append (suc n) [] ys = let all : suc n - 0 ≡ suc n = omega arith in ap (λ m. take m ys) (sym all)
take-append (suc n) (x ∷ xs) ys = let less : suc n - length (x ∷ xs) ≡ n - length xs = omega arith in ap (λ l. x ∷ l) (take-append n xs ys) ∙ ap (λ m. x ∷ take n xs ++ take m ys) (sym less)

shown-append : (xs ys : List Element) → shown_ids (xs ++ ys) ≡ shown_ids xs ++ shown_ids ys
shown-append [] ys = refl
shown-append (x ∷ xs) ys =
    let f : List Element → List Element = filter (λ e. not e.hidden) in
    let ids : List Element → List Identifier = each (λ e. e.id) in
    let rest = shown-append xs ys in
    elim x.hidden as (λ h. ids (cond (not h) (x ∷ f (xs ++ ys)) (f (xs ++ ys))) ≡ ids (cond (not h) (x ∷ f xs) (f xs)) ++ shown_ids ys) [ true ↦ rest | false ↦ ap (λ (l : List Identifier). x.id ∷ l) rest ]

-- of a part and what stands behind it
pub listed_part : (told more : List OpView) (left fewer : ℕ) (part rest : List Element) → more ≡ told ++ each Erase (take left (shown_ids part)) → fewer ≡ left - length (shown_ids part)
    → more ++ each Erase (take fewer (shown_ids rest)) ≡ told ++ each Erase (take left (shown_ids (part ++ rest)))
listed_part told more left fewer part rest more_is is =
    (λ i. more_is i ++ each Erase (take (is i) (shown_ids rest)))
    ∙ append_assoc told (each Erase (take left (shown_ids part))) (each Erase (take (left - length (shown_ids part)) (shown_ids rest)))
    ∙ ap (λ l. told ++ l) (sym (map-append Erase (take left (shown_ids part)) (take (left - length (shown_ids part)) (shown_ids rest)))
    ∙ ap (each Erase) (sym (take-append left (shown_ids part) (shown_ids rest)) ∙ ap (take left) (sym (shown-append part rest))))

-- the deletions from a place on are those of what stands from its spot on
pub from_there : (t : OperationSet) (parts : List (List Element)) (k n p j : ℕ) (e : Element) → flat_map (λ part. part) parts ≡ elements t → IsVisiblePlace parts k p j e
    → each Erase (take n (shown_ids (from_spot parts p j))) ≡ deletions t k n
from_there t parts k n p j e whole_is place =
    ap (λ l. each Erase (take n l)) (from_place parts k p j e place ∙ ap (λ l. drop k (shown_ids l)) whole_is ∙ ap (drop k) (shown_elements t))

-- what is visible, cut, has the text cut
pub text_cut : (s t : OperationSet) (from to : ℕ) → visible t ≡ take from (visible s) ++ drop to (visible s) → text t ≡ take from (text s) ++ drop to (text s)
text_cut s t from to seen =
    ap (each (λ (e : Entry). e.1.ch)) seen ∙ map-append (λ (e : Entry). e.1.ch) (take from (visible s)) (drop to (visible s))
    ∙ (λ i. sym (take-map (λ (e : Entry). e.1.ch) from (visible s)) i ++ sym (drop-map (λ (e : Entry). e.1.ch) to (visible s)) i)
