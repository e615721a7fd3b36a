-- What stays true in the loop of `push_breaks`.
use Rattle.std.proofs.Common.{◌≡◌, ◌++◌, map}
use Rattle.line_break.specs.Lines.{is_break}
use Rattle.conformance.specs.Came.{paragraph_breaks}
use Rattle.conformance.proofs.breaks.push_breaks.Given as goal

abbrev pub invariant-loop-status : goal.invariant-loop-status
invariant-loop-status l = l.breaks.items ++ map is_break l.status-iterator.rest.items ≡ l.initial.breaks.items ++ paragraph_breaks l.tables l.para
