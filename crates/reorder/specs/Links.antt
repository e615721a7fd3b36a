-- Lists of numbers that are stored as links: at each number the one right of it.
use Rattle.std.specs.Prelude.{ℕ, zero, suc, ◌≡◌, List, [], ◌∷◌, slice_index, slice_range}
use Rattle.std.specs.List.{enumerate_from}
use Rattle.reorder.specs.VisualList.{Cluster}

-- from `at`, whose links lead along the list to `last`
abbrev pub LeadsTo : List ℕ → ℕ → ℕ → List ℕ → Type 0
LeadsTo links at last [] = last ≡ at
LeadsTo links at last (x ∷ xs) = (slice_index links at ≡ x) × LeadsTo links x last xs

-- the links lead along the list, which is not empty, from `first` to `last`
abbrev pub IsLinked : List ℕ → ℕ → ℕ → List ℕ → Type 0
IsLinked links first last [] = ⊥
IsLinked links first last (x ∷ xs) = (first ≡ x) × LeadsTo links x last xs

-- the n numbers that the links lead along from `at`
abbrev pub walk : ℕ → List ℕ → ℕ → List ℕ
walk zero links at = []
walk (suc n) links at = at ∷ walk n links (slice_index links at)

-- the clusters of a line from place a up to b
unfoldable pub clusters_between : List ℕ → ℕ → ℕ → List Cluster
clusters_between levels a b = slice_range (enumerate_from 0 levels) a b
