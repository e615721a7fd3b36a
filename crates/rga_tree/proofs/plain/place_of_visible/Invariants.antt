-- What stays true in the loop of `place_of_visible`.
use Rattle.std.proofs.Common.{◌≡◌, ◌+◌, take}
use Rattle.rga_tree.specs.Spot.{seen}
use Rattle.rga_tree.proofs.plain.place_of_visible.Given as goal

abbrev pub invariant-loop-at : goal.invariant-loop-at
invariant-loop-at l = seen (take l.at l.row) + l.left ≡ l.k
