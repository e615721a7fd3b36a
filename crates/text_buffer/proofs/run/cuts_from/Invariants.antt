-- The changes so far are cuts.
use Rattle.std.proofs.Common.{◌≡◌, take}
use Rattle.text_buffer.specs.Edits.{cuts_at}
use Rattle.text_buffer.proofs.run.cuts_from.Given as goal

abbrev pub invariant-loop-count : goal.invariant-loop-count
invariant-loop-count l = take l.count l.changes ≡ cuts_at l.place l.count
