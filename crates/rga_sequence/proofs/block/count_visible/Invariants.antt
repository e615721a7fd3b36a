-- What stays true in the loop of `count_visible`.
use Rattle.std.proofs.Common.{◌≡◌, take}
use Rattle.rga_sequence.specs.Blocks.{seen}
use Rattle.rga_sequence.proofs.block.count_visible.Given as goal

abbrev pub invariant-loop-e : goal.invariant-loop-e
invariant-loop-e l = l.visible ≡ seen (take l.e-index l.row)
