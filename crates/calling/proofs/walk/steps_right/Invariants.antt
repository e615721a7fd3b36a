-- The caret so far is the one after that many steps.
use Rattle.std.proofs.Common.{◌≡◌}
use Rattle.caret.specs.Gaps.{IsCaretOf}
use Rattle.caret.specs.Moves.{right_of}
use Rattle.caret.specs.Laws.{moved}
use Rattle.calling.proofs.walk.steps_right.Given as goal

abbrev pub invariant-loop : goal.invariant-loop
invariant-loop l = (l.caret ≡ moved (right_of l.grid.rows) l.counter l.fn.from) × IsCaretOf l.grid.rows l.caret
