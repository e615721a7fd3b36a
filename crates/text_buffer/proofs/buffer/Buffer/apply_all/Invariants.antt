-- The changes so far are made.
use Rattle.std.proofs.Common.{◌-◌, length}
use Rattle.text_buffer.proofs.Runs.{IsUnderWay}
use Rattle.text_buffer.proofs.buffer.Buffer.apply_all.Given as goal

abbrev pub invariant-loop-made : goal.invariant-loop-made
invariant-loop-made g l = IsUnderWay l.tables l.initial.self l.changes l.self l.made

abbrev pub decreases-loop-made : goal.decreases-loop-made
decreases-loop-made g l = length l.changes - l.made
