-- The goals of `set_data` that are answered by hand.
use Rattle.std.proofs.Common.{length, ap, arith}
use Rattle.ucd_files.proofs.LinesOf.{length-lines_of-le}
use Rattle.ucd_files.proofs.read.set_data.Goals as goal

pub overflow_add-number : goal.overflow_add-number
overflow_add-number g c =
    omega (arith, c.loop-line.invariant.2, length-lines_of-le c.args.bytes.now, ap length c.in-Some.ensures.steps)
