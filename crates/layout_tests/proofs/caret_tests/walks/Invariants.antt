-- The caret stays one of the grid.
use Rattle.caret.specs.Gaps.{IsCaretOf}
use Rattle.layout_tests.proofs.caret_tests.walks.Given as goal

abbrev pub invariant-loop-stop : goal.invariant-loop-stop
invariant-loop-stop l = IsCaretOf l.grid.rows l.caret
