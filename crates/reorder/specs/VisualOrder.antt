-- Words of the visual-order law.
use Rattle.std.specs.Prelude.{ℕ, ◌≡◌, ◌<◌, ◌+◌, ◌%◌, ◌↔◌, List, [], ◌∷◌, length, min, Some, slice_index, slice_range, slice_get}
use Rattle.reorder.specs.VisualList.{visual_list}

-- i stands somewhere left of j
abbrev pub StandsLeft : List ℕ → ℕ → ℕ → Type 0
StandsLeft order i j = (p q : ℕ) × (p < q) × (slice_get order p ≡ Some i) × (slice_get order q ≡ Some j)

-- the least of a first level and the further ones
abbrev pub least_level : ℕ → List ℕ → ℕ
least_level l [] = l
least_level l (m ∷ ms) = min l (least_level m ms)

-- the least level from cluster i to cluster j
unfoldable pub least_between : List ℕ → ℕ → ℕ → ℕ
least_between levels i j = least_level (slice_index levels i) (slice_range levels (i + 1) (j + 1))

-- of clusters i before j of one line, i stands left of j exactly if the least level from i to j is even
abbrev pub VisualOrder : Type 0
VisualOrder =
    (levels : List ℕ) (i j : ℕ) → i < j → j < length levels →
    StandsLeft (visual_list levels) i j ↔ (least_between levels i j % 2 ≡ 0)
