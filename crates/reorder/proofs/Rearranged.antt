-- The visual list has the numbers of all clusters.
use Rattle.std.proofs.Common.{ℕ, suc, ◌≡◌, ◌+◌, ◌-◌, refl, ap, subst, List, [], ◌∷◌, length}
use Rattle.std.specs.List.{range_with_len, enumerate_from}
use Rattle.std.specs.List.Sorted.{IsPermutation}
use Rattle.std.proofs.lemmas.List.Sorted.{IsPermutation-map}
use Rattle.reorder.specs.VisualList.{Cluster, numbers, greatest, lowest_odd, arranged, visual_list}
use Rattle.reorder.proofs.Rounds.{rounds-permute}

pub arranged-permutes : (levels : List ℕ) (clusters : List Cluster) → IsPermutation clusters (arranged levels clusters)
unfolding arranged
arranged-permutes levels clusters =
    rounds-permute (suc (greatest levels) - lowest_odd (suc (greatest levels)) levels) (lowest_odd (suc (greatest levels)) levels) clusters

pub numbers-enumerate_from : (n : ℕ) (levels : List ℕ) → numbers (enumerate_from n levels) ≡ range_with_len n (length levels)
numbers-enumerate_from n [] = refl
numbers-enumerate_from n (l ∷ ls) = ap (λ ns. n ∷ ns) (numbers-enumerate_from (n + 1) ls)

pub visual_list-permutes : (levels : List ℕ) → IsPermutation (range_with_len 0 (length levels)) (visual_list levels)
unfolding visual_list
visual_list-permutes levels =
    subst (λ ns. IsPermutation ns (numbers (arranged levels (enumerate_from 0 levels)))) (numbers-enumerate_from 0 levels)
    (IsPermutation-map (λ c. c.0) (enumerate_from 0 levels) (arranged levels (enumerate_from 0 levels)) (arranged-permutes levels (enumerate_from 0 levels)))
