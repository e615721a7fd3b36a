-- The desks of a run before its first step.
use Rattle.std.proofs.Common.{◌≡◌, ◌<◌, ◌≤◌, ◌-◌, ℕ, zero, suc, ◌+◌, List, [], ◌∷◌, ◌++◌, Some, refl, sym, ap, ◌∙◌, arith, length}
use Rattle.std.specs.Prelude.{map as each, slice_get}
use Rattle.std.specs.List.{range_with_len}
use Rattle.std.proofs.lemmas.List.FromFn.{length-map-range_with_len, get_or-map-range_with_len, map-range_with_len_more}
use Rattle.std.proofs.lemmas.Option.{slice_get-get_or}
use Rattle.bg_types.specs.OperationSet.{OperationSet, no_operations}
use Rattle.desk_replica.specs.Desk.{Desk, fresh}
use Rattle.desk_replica.specs.DeskSets.{sets_of, empty_desks}
use Rattle.desk_runs.specs.Desks.{fresh_desks}

fresh_from-empty : (first count : ℕ) → sets_of (each fresh (range_with_len first count)) ≡ empty_desks count
fresh_from-empty first zero = refl
fresh_from-empty first (suc count) = ap (λ (sets : List OperationSet). no_operations ∷ sets) (fresh_from-empty (first + 1) count)

pub fresh-empty : (count : ℕ) → sets_of (fresh_desks count) ≡ empty_desks count
fresh-empty count = fresh_from-empty 1 count

pub fresh-count : (count : ℕ) → length (fresh_desks count) ≡ count
fresh-count count = length-map-range_with_len fresh 1 count

pub fresh-at : (count k : ℕ) → k < count → slice_get (fresh_desks count) k ≡ Some (fresh (k + 1))
fresh-at count k lt =
    let many = fresh-count count in
    let number : 1 + k ≡ k + 1 = omega arith in
    slice_get-get_or (fresh_desks count) k (fresh 0) (omega (arith, many, lt)) ∙ ap (λ d. Some d) (get_or-map-range_with_len fresh 1 count k (k + 1) (fresh 0) lt number)

-- one desk more, of the next site
pub fresh-more : (site : ℕ) (old new : List Desk) (desk : Desk) → 1 ≤ site → old ≡ fresh_desks (site - 1) → desk ≡ fresh site → new ≡ old ++ desk ∷ [] → new ≡ fresh_desks (site + 1 - 1)
fresh-more site old new desk some before is pushed =
    let number : 1 + (site - 1) ≡ site = omega (arith, some) in
    let next : site - 1 + 1 ≡ site + 1 - 1 = omega (arith, some) in
    pushed ∙ ap (λ l. l ++ desk ∷ []) before ∙ ap (λ d. fresh_desks (site - 1) ++ d ∷ []) is ∙ sym (map-range_with_len_more fresh 1 (site - 1) site number) ∙ ap fresh_desks next
