-- The changes so far lead to the characters that the buffer has.
use Rattle.std.proofs.Common.{take}
use Rattle.bg_types.specs.Edit.{IsEdit}
use Rattle.calling.proofs.buffer.follow_all.Given as goal

abbrev pub invariant-loop-n : goal.invariant-loop-n
invariant-loop-n l = IsEdit l.fn.buffer.items (take l.n l.changes) l.buffer.items
