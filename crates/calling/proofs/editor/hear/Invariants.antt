-- The set so far is the old one with the operations that were taken.
use Rattle.std.proofs.Common.{◌≡◌, take}
use Rattle.desk_replica.specs.Merging.{with_operations}
use Rattle.calling.proofs.editor.hear.Given as goal

abbrev pub invariant-loop-op : goal.invariant-loop-op
invariant-loop-op l = l.document.desk.set ≡ with_operations l.fn.document.desk.set (take l.op-index l.ops)
