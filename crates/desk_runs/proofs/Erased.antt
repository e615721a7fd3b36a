-- The visible characters from a place on are erased, one after the other.
use Rattle.std.proofs.Common.{◌≡◌, ◌≤◌, ◌<◌, ◌+◌, ℕ, zero, suc, List, [], ◌∷◌, ◌++◌, length, take, drop, Some, refl, sym, ap, subst, ◌∙◌, arith}
use Rattle.std.specs.Prelude.{slice_get, insert, remove, map as each}
use Rattle.std.specs.List.{AllByRecursion}
use Rattle.std.proofs.lemmas.List.{take-append-drop, length-map}
use Rattle.bg_types.specs.Identifier.{Identifier}
use Rattle.bg_types.specs.WellFormed.{IsWellFormed}
use Rattle.bg_types.specs.OperationSet.{OperationSet, AllWellFormed, next, with_operation}
use Rattle.bg_types.specs.declared.op.OpView.TheVariants.{Erase}
use Rattle.rga_tree.specs.TextOf.{visible, visible_ids}
use Rattle.rga_tree.proofs.Interface.{Entry, AllWellFormed-with}
use Rattle.desk_replica.specs.Typing.{typed, insertion}
use Rattle.desk_replica.specs.Merging.{with_operations}
use Rattle.desk_replica.specs.Replacement.{deletions}
use Rattle.desk_runs.proofs.Lists.{deletions-at}
use Rattle.desk_runs.proofs.Sets.{AllJoin}

-- what the law of typing and erasing says of all sets
pub record EditLaws : Type 0 where
  pub typed : (s : OperationSet) (site place ch : ℕ) → AllWellFormed s → place ≤ length (visible s) → IsWellFormed (insertion (typed s site place ch))
      → visible (with_operation s (insertion (typed s site place ch))) ≡ insert (visible s) place (typed s site place ch)
  pub erased : (s : OperationSet) (place : ℕ) (target : Identifier) → AllWellFormed s → slice_get (visible_ids s) place ≡ Some target → visible (with_operation s (Erase target)) ≡ remove (visible s) place
  pub counter : (s : OperationSet) (place : ℕ) (target : Identifier) → slice_get (visible_ids s) place ≡ Some target → next (with_operation s (Erase target)) ≡ next s

-- ---- a list without the element at a place

pub drop-remove : {X : Type 0} (xs : List X) (k m : ℕ) → k < length xs → k ≤ m → drop m (remove xs k) ≡ drop (suc m) xs
drop-remove [] k m h le = absurd (omega arith)
drop-remove (x ∷ xs) zero m h le = refl
drop-remove (x ∷ xs) (suc k) zero h le = absurd (omega arith)
drop-remove (x ∷ xs) (suc k) (suc m) h le = drop-remove xs k m (omega arith) (omega arith)

pub take-remove : {X : Type 0} (xs : List X) (k : ℕ) → take k (remove xs k) ≡ take k xs
take-remove [] zero = refl
take-remove [] (suc k) = refl
take-remove (x ∷ xs) zero = refl
take-remove (x ∷ xs) (suc k) = ap (λ l. x ∷ l) (take-remove xs k)

pub length-remove : {X : Type 0} (xs : List X) (k : ℕ) → k < length xs → length (remove xs k) + 1 ≡ length xs
length-remove [] k h = absurd (omega arith)
length-remove (x ∷ xs) zero h = omega arith
length-remove (x ∷ xs) (suc k) h = let rest = length-remove xs k (omega arith) in omega arith

pub each-remove : {X Y : Type 0} (f : X → Y) (xs : List X) (k : ℕ) → each f (remove xs k) ≡ remove (each f xs) k
each-remove f [] zero = refl
each-remove f [] (suc k) = refl
each-remove f (x ∷ xs) zero = refl
each-remove f (x ∷ xs) (suc k) = ap (λ l. f x ∷ l) (each-remove f xs k)

pub within-at : {X : Type 0} (xs : List X) (k : ℕ) → k < length xs → (x : X) × (slice_get xs k ≡ Some x)
within-at [] k h = absurd (omega arith)
within-at (x ∷ xs) zero h = (x, refl)
within-at (x ∷ xs) (suc k) h = within-at xs k (omega arith)

-- ---- a number of them are erased

-- t has what s has without a number of characters from a place on
pub record IsErased (s t : OperationSet) (k n : ℕ) : Type 0 where
  pub visible_is : visible t ≡ take k (visible s) ++ drop (k + n) (visible s)
  pub next_is : next t ≡ next s
  pub well : AllWellFormed t

module _ (laws : EditLaws) (k : ℕ) where
  first_erased : (n : ℕ) (s : OperationSet) (x : Identifier) → AllWellFormed s → k < length (visible s) → slice_get (visible_ids s) k ≡ Some x → deletions s k (suc n) ≡ Erase x ∷ deletions (with_operation s (Erase x)) k n
  first_erased n s x well lt at =
      let ids : visible_ids (with_operation s (Erase x)) ≡ remove (visible_ids s) k = ap (each (λ (e : Entry). e.0)) (laws.erased s k x well at) ∙ each-remove (λ (e : Entry). e.0) (visible s) k in
      let many = length-map (visible s) (λ (e : Entry). e.0) in
      let up : suc k ≡ k + 1 = omega arith in
      let rest : drop (k + 1) (visible_ids s) ≡ drop k (visible_ids (with_operation s (Erase x))) =
      ap (λ j. drop j (visible_ids s)) (sym up) ∙ sym (drop-remove (visible_ids s) k k (omega (arith, many, lt)) (omega arith)) ∙ ap (drop k) (sym ids) in
      deletions-at (visible_ids s) k (suc n) n x at refl ∙ ap (λ l. Erase x ∷ each Erase (take n l)) rest

  one_more : (n : ℕ) (s : OperationSet) → AllWellFormed s → k + suc n ≤ length (visible s) → (x : Identifier) → slice_get (visible_ids s) k ≡ Some x
      → deletions s k (suc n) ≡ Erase x ∷ deletions (with_operation s (Erase x)) k n → AllByRecursion IsWellFormed (deletions s k (suc n))
      → (AllWellFormed (with_operation s (Erase x)) → k + n ≤ length (visible (with_operation s (Erase x))) → AllByRecursion IsWellFormed (deletions (with_operation s (Erase x)) k n)
      → IsErased (with_operation s (Erase x)) (with_operations (with_operation s (Erase x)) (deletions (with_operation s (Erase x)) k n)) k n × AllJoin (with_operation s (Erase x)) (deletions (with_operation s (Erase x)) k n))
      → IsErased s (with_operations s (deletions s k (suc n))) k (suc n) × AllJoin s (deletions s k (suc n))
  one_more n s well le x at split formed later =
      let seen = laws.erased s k x well at in
      let within : k < length (visible s) = omega arith in
      let fewer = length-remove (visible s) k within in
      let shorter = ap length seen in
      let formed' = subst (AllByRecursion IsWellFormed) split formed in
      let below : k ≤ k + n = omega arith in
      let rest = later (AllWellFormed-with s (Erase x) well formed'.0) (omega (arith, fewer, shorter, le)) formed'.1 in
      let on : suc (k + n) ≡ k + suc n = omega arith in
      subst (λ ops. IsErased s (with_operations s ops) k (suc n) × AllJoin s ops) (sym split) (
        record {
          visible_is = rest.0.visible_is
              ∙ (λ i. take k (seen i) ++ drop (k + n) (seen i))
              ∙ (λ i. take-remove (visible s) k i ++ drop-remove (visible s) k (k + n) within below i)
              ∙ ap (λ m. take k (visible s) ++ drop m (visible s)) on;
          next_is = rest.0.next_is ∙ laws.counter s k x at;
          well = rest.0.well;
        },
        (tt, rest.1),
      )

  pub erased_all : (n : ℕ) (s : OperationSet) → AllWellFormed s → k + n ≤ length (visible s) → AllByRecursion IsWellFormed (deletions s k n) → IsErased s (with_operations s (deletions s k n)) k n × AllJoin s (deletions s k n)
  erased_all zero s well le formed =
      let none : k ≡ k + 0 = omega arith in
      (record { visible_is = sym (take-append-drop k (visible s)) ∙ ap (λ m. take k (visible s) ++ drop m (visible s)) none; next_is = refl; well = well }, tt)
  erased_all (suc n) s well le formed =
      let many = length-map (visible s) (λ (e : Entry). e.0) in
      let x = within-at (visible_ids s) k (omega (arith, many, le)) in
      one_more n s well le x.0 x.1 (first_erased n s x.0 well (omega arith) x.1) formed (erased_all n (with_operation s (Erase x.0)))
