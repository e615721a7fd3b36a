-- The goals of `element` that are answered by hand.
use Rattle.rga_sequence.proofs.Whole.{element_is}
use Rattle.rga_sequence.proofs.blocks.BlocksLook.element.Goals as goal

pub returns-clause-value : goal.returns-clause-value
returns-clause-value c = element_is c.args.self.now.row.blocks.items c.args.b c.args.j c.index.result.now c.index-2.result.now c.requires.there c.index.ensures c.index-2.ensures
