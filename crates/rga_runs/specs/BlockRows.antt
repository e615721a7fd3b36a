-- The stretches of the blocks of a list.
use Rattle.std.specs.Prelude.{ℕ, List, map as each}
use Rattle.rga_runs.specs.declared.stretch.Stretch.{Stretch}
use Rattle.rga_runs.specs.declared.block.Block.{Block}

abbrev pub items_of : List Block → List (List Stretch)
items_of bs = each (λ b. b.stretches.items) bs

abbrev pub numbers_of : List Block → List ℕ
numbers_of bs = each (λ b. b.number) bs
