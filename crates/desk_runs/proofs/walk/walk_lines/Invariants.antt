-- The lines so far are those of the moves so far, and the caret is the one after them.
use Rattle.std.proofs.Common.{◌≡◌, take, string_bytes}
use Rattle.std.specs.List.{flat_map}
use Rattle.caret.specs.Gaps.{IsCaretOf}
use Rattle.desk_runs.specs.Carets.{walk, caret_line}
use Rattle.desk_runs.proofs.Walks.{after}
use Rattle.desk_runs.proofs.walk.walk_lines.Given as goal

abbrev pub invariant-loop-step : goal.invariant-loop-step
invariant-loop-step l =
    (string_bytes l.lines ≡ flat_map caret_line (walk l.grid.rows l.fn.start (take l.step-index l.moves)))
    × (l.caret ≡ after l.grid.rows l.fn.start (take l.step-index l.moves))
    × IsCaretOf l.grid.rows l.caret
