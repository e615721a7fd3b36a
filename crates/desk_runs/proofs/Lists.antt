-- Lists of identifiers, and the operations made of them.
use Rattle.std.proofs.Common.{◌≡◌, ◌≤◌, ◌<◌, ◌+◌, ℕ, zero, suc, List, [], ◌∷◌, ◌++◌, length, take, drop, None, Some, refl, sym, ap, ◌∙◌, length-append, arith}
use Rattle.std.specs.Option.{option_map_or}
use Rattle.std.proofs.lemmas.List.{length-map, length-take-le, map-append, take-map, drop-map}
use Rattle.std.specs.Prelude.{slice_get, map as each}
use Rattle.bg_types.specs.Identifier.{Identifier}
use Rattle.bg_types.specs.OperationSet.{OperationSet}
use Rattle.bg_types.specs.declared.op.Place.TheVariants.{Root, After}
use Rattle.bg_types.specs.declared.op.OpView.TheVariants.{Erase}
use Rattle.rga_tree.specs.TextOf.{visible, visible_ids}
use Rattle.rga_tree.proofs.Interface.{Entry}
use Rattle.desk_replica.specs.Typing.{parent_at}

-- what stands at a place is the first of the rest
pub drop-at : {X : Type 0} (xs : List X) (k : ℕ) (x : X) → slice_get xs k ≡ Some x → drop k xs ≡ x ∷ drop (suc k) xs
drop-at [] zero x h = absurd (let e : None ≡ Some x = h in cc)
drop-at [] (suc k) x h = absurd (let e : None ≡ Some x = h in cc)
drop-at (y ∷ xs) zero x h = let e : y ≡ x = cc in ap (λ z. z ∷ xs) e
drop-at (y ∷ xs) (suc k) x h = drop-at xs k x h

-- the deletions from a place on begin with that of the character there
pub deletions-at : (ids : List Identifier) (k n m : ℕ) (x : Identifier) → slice_get ids k ≡ Some x → n ≡ suc m → each Erase (take n (drop k ids)) ≡ Erase x ∷ each Erase (take m (drop (k + 1) ids))
deletions-at ids k n m x at is =
    let up : suc k ≡ k + 1 = omega arith in
    ap (λ j. each Erase (take j (drop k ids))) is ∙ ap (λ l. each Erase (take (suc m) l)) (drop-at ids k x at) ∙ ap (λ j. Erase x ∷ each Erase (take m (drop j ids))) up

-- ---- a list that was cut

pub take-front : {X : Type 0} (xs ys : List X) (k : ℕ) → k ≤ length xs → take k (take k xs ++ ys) ≡ take k xs
take-front [] ys zero h = refl
take-front [] ys (suc k) h = absurd (omega arith)
take-front (x ∷ xs) ys zero h = refl
take-front (x ∷ xs) ys (suc k) h = ap (λ l. x ∷ l) (take-front xs ys k (omega arith))

pub drop-front : {X : Type 0} (xs ys : List X) (k : ℕ) → k ≤ length xs → drop k (take k xs ++ ys) ≡ ys
drop-front [] ys zero h = refl
drop-front [] ys (suc k) h = absurd (omega arith)
drop-front (x ∷ xs) ys zero h = refl
drop-front (x ∷ xs) ys (suc k) h = drop-front xs ys k (omega arith)

pub at-front : {X : Type 0} (xs ys : List X) (j k : ℕ) → j < k → k ≤ length xs → slice_get (take k xs ++ ys) j ≡ slice_get xs j
at-front [] ys j k lt h = absurd (omega arith)
at-front (x ∷ xs) ys j zero lt h = absurd (omega arith)
at-front (x ∷ xs) ys zero (suc k) lt h = refl
at-front (x ∷ xs) ys (suc j) (suc k) lt h = at-front xs ys j k (omega arith) (omega arith)

-- what stands before the cut stays, and so does the parent of what is typed there
module _ (s t : OperationSet) (k m : ℕ) (le : k ≤ length (visible s)) (cut : visible t ≡ take k (visible s) ++ drop m (visible s)) where
  many_ids : length (visible_ids s) ≡ length (visible s)
  many_ids = length-map (visible s) (λ (e : Entry). e.0)

  ids_is : visible_ids t ≡ take k (visible_ids s) ++ drop m (visible_ids s)
  ids_is = ap (each (λ (e : Entry). e.0)) cut ∙ map-append (λ (e : Entry). e.0) (take k (visible s)) (drop m (visible s))
      ∙ (λ i. sym (take-map (λ (e : Entry). e.0) k (visible s)) i ++ sym (drop-map (λ (e : Entry). e.0) m (visible s)) i)

  pub parent_cut : parent_at (visible_ids t) k ≡ parent_at (visible_ids s) k
  parent_cut = ap (λ l. parent_at l k) ids_is ∙ by k (omega (arith, many_ids, le))
    where
      by : (j : ℕ) → j ≤ length (visible_ids s) → parent_at (take j (visible_ids s) ++ drop m (visible_ids s)) j ≡ parent_at (visible_ids s) j
      by zero le = refl
      by (suc j) le = ap (λ o. option_map_or After o Root) (at-front (visible_ids s) (drop m (visible_ids s)) j (suc j) (omega arith) le)

  pub place_cut : k ≤ length (visible t)
  place_cut =
      let all = ap length cut in
      let both = length-append (take k (visible s)) (drop m (visible s)) in
      let front = length-take-le k (visible s) le in
      omega (arith, all, both, front)
