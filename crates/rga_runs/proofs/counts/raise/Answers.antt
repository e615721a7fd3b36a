-- The goals of `raise` that are answered by hand.
use Rattle.std.proofs.Common.{arith}
use Rattle.rga_runs.proofs.Summed.{sums-raised, sums-kept}
use Rattle.rga_runs.proofs.counts.raise.Goals as goal

pub returns-then-g-sums : goal.returns-then-g-sums
returns-then-g-sums c = λ xs y there is sums.
    sums-raised c.args.sums.now xs c.args.q c.args.more y c.if-g-sums.true there is sums

pub returns-else-g-sums : goal.returns-else-g-sums
returns-else-g-sums c = λ xs y there is sums. sums-kept c.args.sums.now xs c.args.q y (omega (arith, c.if-g-sums.false)) sums

pub overflow_add-sums : goal.overflow_add-sums
overflow_add-sums c = omega (arith, c.requires.few 0 c.if-g-sums.true)
