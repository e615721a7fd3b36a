-- The goals of `visible_before` that are answered by hand.
use Rattle.std.proofs.Common.{◌∙◌}
use Rattle.rga_tree.proofs.Seen.{before_row}
use Rattle.rga_tree.proofs.plain.PlainSequence.visible_before.Goals as goal

pub returns : goal.returns
returns c = c.count_before.ensures ∙ rw c.deref.ensures.value (before_row c.args.self.now.row.items c.args.id c.args.self.now.keeps_walk.in_order)
