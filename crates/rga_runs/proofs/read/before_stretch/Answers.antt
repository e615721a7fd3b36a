-- The goals of `before_stretch` that are answered by hand.
use Rattle.std.proofs.Common.{arith}
use Rattle.rga_runs.proofs.Sums.{few_visible}
use Rattle.rga_runs.proofs.read.before_stretch.Goals as goal

pub count_visible-requires : goal.count_visible-requires
count_visible-requires c = omega (arith, few_visible c.split_at.result.0.now, c.split_at.ensures.front_len, c.requires, c.args.block.now.few, c.args.block.now.stretches.ok)
