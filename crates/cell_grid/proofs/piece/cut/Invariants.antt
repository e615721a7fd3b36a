-- The pieces so far, and the clusters that are left, are the line's.
use Rattle.cell_grid.specs.Parts.{left_of}
use Rattle.cell_grid.proofs.PieceCuts.{AreCutTo}
use Rattle.cell_grid.proofs.piece.cut.Given as goal

abbrev pub decreases-loop-left : goal.decreases-loop-left
decreases-loop-left l = l.left

abbrev pub invariant-loop-left : goal.invariant-loop-left
invariant-loop-left l = AreCutTo (left_of l.runs l.fn.cursor) l.fn.clusters l.fn.levels l.fn.width l.pieces.items l.left (left_of l.runs l.reader) l.ahead l.room
