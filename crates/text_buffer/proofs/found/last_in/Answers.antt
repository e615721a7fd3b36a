-- A block has a paragraph.
use Rattle.std.proofs.Common.{arith}
use Rattle.text_buffer.proofs.Founds.{row-some}
use Rattle.text_buffer.proofs.found.last_in.Goals as goal

pub overflow_sub-result : goal.overflow_sub-result
overflow_sub-result g c = omega (arith, row-some c.args.blocks.now c.args.block c.requires, c.count_in.ensures)

pub returns : goal.returns
returns g c = omega (arith, row-some c.args.blocks.now c.args.block c.requires, c.count_in.ensures)
