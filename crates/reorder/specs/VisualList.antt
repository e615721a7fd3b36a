-- The visual order of a line: UAX #9, L2.
use Rattle.std.specs.Prelude.{ℕ, zero, suc, ◌-◌, ◌%◌, ◌==◌, nat_le, min, Bool, true, false, List, [], ◌∷◌, ◌++◌, map, if◌then◌else◌}
use Rattle.std.specs.List.{enumerate_from}
pub use Rattle.bg_types.specs.Numbers.{greatest}

-- a cluster's number, from 0, and its level
abbrev pub Cluster : Type 0
Cluster = ℕ × ℕ

abbrev pub numbers : List Cluster → List ℕ
numbers clusters = map (λ c. c.0) clusters

-- the clusters with each longest run of those that pass reversed; the first list is the run that ends here, reversed
abbrev pub runs_reversed_behind : (Cluster → Bool) → List Cluster → List Cluster → List Cluster
runs_reversed_behind p run [] = run
runs_reversed_behind p run (c ∷ cs) =
    elim (p c) [
      | true ↦ runs_reversed_behind p (c ∷ run) cs
      | false ↦ run ++ c ∷ runs_reversed_behind p [] cs
    ]

-- each longest run of clusters that pass, reversed
abbrev pub runs_reversed : (Cluster → Bool) → List Cluster → List Cluster
runs_reversed p clusters = runs_reversed_behind p [] clusters

abbrev pub is_at_least : ℕ → Cluster → Bool
is_at_least level c = nat_le level c.1

-- for each of n numbers from `level` on, the greatest first: every longest run of that level or higher, reversed
abbrev pub reversed_from : ℕ → ℕ → List Cluster → List Cluster
reversed_from zero level clusters = clusters
reversed_from (suc n) level clusters = runs_reversed (is_at_least level) (reversed_from n (suc level) clusters)

abbrev pub is_odd : ℕ → Bool
is_odd n = n % 2 == 1

-- the lowest odd level, or the given number where there is none
abbrev pub lowest_odd : ℕ → List ℕ → ℕ
lowest_odd none [] = none
lowest_odd none (l ∷ ls) = if is_odd l then min l (lowest_odd none ls) else lowest_odd none ls

-- what the reversals of a line with these levels do to some of its clusters
unfoldable pub arranged : List ℕ → List Cluster → List Cluster
arranged levels clusters =
    let above = suc (greatest levels) in
    let lowest = lowest_odd above levels in
    reversed_from (above - lowest) lowest clusters

-- L2: the numbers of a line's clusters from left to right
unfoldable pub visual_list : List ℕ → List ℕ
visual_list levels = numbers (arranged levels (enumerate_from 0 levels))
