-- The rows so far are copied.
use Rattle.std.proofs.Common.{◌≡◌}
use Rattle.live_document.proofs.window.Window.to_rows.Given as goal

abbrev pub invariant-loop-row : goal.invariant-loop-row
invariant-loop-row l = l.rows.items ≡ l.yielded
