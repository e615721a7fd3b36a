-- The goals of `has` that are answered by hand.
use Rattle.std.proofs.Common.{sym, ◌∙◌}
use Rattle.rga_tree.proofs.RowSets.{has_row}
use Rattle.rga_tree.proofs.plain.PlainSequence.has.Goals as goal

pub returns : goal.returns
returns c = c.contains.ensures ∙ rw c.deref.ensures.value (sym (has_row c.args.self.now.row.items c.args.id))
