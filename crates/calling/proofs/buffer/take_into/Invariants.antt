-- What was told so far leads from the text before to the desk's text.
use Rattle.bg_types.specs.Edit.{IsEdit}
use Rattle.rga_tree.specs.TextOf.{text}
use Rattle.calling.proofs.buffer.take_into.Given as goal

abbrev pub invariant-loop-op : goal.invariant-loop-op
invariant-loop-op l = IsEdit (text l.fn.desk.set) l.changes.items (text l.desk.set)
