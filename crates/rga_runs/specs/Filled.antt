-- The elements of stretches in blocks, in parts that are found by their numbers.
use Rattle.std.specs.Prelude.{ℕ, zero, suc, List, [], ◌∷◌}
use Rattle.std.specs.List.{flat_map}
use Rattle.rga_tree.specs.declared.element.Element.{Element}
use Rattle.rga_runs.specs.declared.stretch.Stretch.{Stretch}
use Rattle.rga_runs.specs.Stretches.{parts_in}

-- as many lists, the last ones empty
abbrev pub filled_to : ℕ → List (List Element) → List (List Element)
filled_to zero xs = []
filled_to (suc n) [] = [] ∷ filled_to n []
filled_to (suc n) (x ∷ xs) = x ∷ filled_to n xs

-- a part for each stretch that a block may have
abbrev pub filled : List ℕ → List (List Stretch) → List (List Element)
filled chars xs = flat_map (λ x. filled_to 256 (parts_in chars x)) xs
