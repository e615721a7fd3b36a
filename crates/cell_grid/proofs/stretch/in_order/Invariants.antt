-- The pieces of the stretches so far, from left to right.
use Rattle.std.proofs.Common.{◌≡◌, map, take, flat_map}
use Rattle.reorder.specs.Pieces.{piece_order}
use Rattle.cell_grid.specs.Pieces.{piece_at}
use Rattle.cell_grid.specs.Stretches.{level_piece}
use Rattle.cell_grid.proofs.stretch.in_order.Given as goal

abbrev pub invariant-loop-number : goal.invariant-loop-number
invariant-loop-number l = l.runs.items ≡ map (piece_at l.pieces) (flat_map (piece_order (map level_piece l.stretches)) (take l.number-index l.numbers))
