-- The goals of `len` that are answered by hand.
use Rattle.std.proofs.Common.{◌∙◌}
use Rattle.rga_tree.proofs.Seen.{visible_row}
use Rattle.rga_tree.proofs.plain.PlainSequence.len.Goals as goal

pub returns : goal.returns
returns c = c.count_visible.ensures ∙ rw c.deref.ensures.value (visible_row c.args.self.now.row.items c.args.self.now.keeps_walk.in_order)
