-- The goals of `has` that are answered by hand.
use Rattle.std.proofs.Common.{◌∙◌, sym}
use Rattle.rga_tree.proofs.Interface.{has_row}
use Rattle.rga_sequence.specs.Indexed.{elements_in}
use Rattle.rga_sequence.proofs.blocks.BlocksSequence.has.Goals as goal

pub returns : goal.returns
returns c = c.stands.ensures ∙ sym (has_row (elements_in c.args.self.now.row) c.args.id)
