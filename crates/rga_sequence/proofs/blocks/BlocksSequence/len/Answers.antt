-- The goals of `len` that are answered by hand.
use Rattle.std.proofs.Common.{◌∙◌}
use Rattle.rga_tree.proofs.Interface.{visible_row}
use Rattle.rga_sequence.specs.Indexed.{elements_in}
use Rattle.rga_sequence.proofs.blocks.BlocksSequence.len.Goals as goal

pub returns : goal.returns
returns c = c.args.self.now.visible_are ∙ visible_row (elements_in c.args.self.now.row) c.args.self.now.keeps_walk.in_order
