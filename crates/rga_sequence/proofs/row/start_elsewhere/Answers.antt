-- The goal of `start_elsewhere` that is answered by hand.
use Rattle.std.proofs.Common.{arith}
use Rattle.rga_sequence.specs.Few.{few_items}
use Rattle.rga_sequence.proofs.row.start_elsewhere.Goals as goal

pub overflow_add-result : goal.overflow_add-result
overflow_add-result c = omega (arith, few_items c.args.row.now.blocks.items c.in-Some.p, c.in-Some.ensures.within)
