-- A run that ends before the cluster is passed.
use Rattle.std.proofs.Common.{◌+◌, arith}
use Rattle.line_break.specs.Runs.{no_run}
use Rattle.line_break.proofs.Counting.{count-next, count-within}
use Rattle.line_break.proofs.cursor.Cursor.seek.Goals as goal

pub overflow_add-end : goal.overflow_add-end
overflow_add-end c =
    let runs = c.args.runs.now in
    let i = c.loop-self.self.run in
    let next = count-next runs i no_run c.loop-self-test.true in
    let within = count-within runs (i + 1) in
    let first = c.loop-self.invariant.first in
    omega (arith, c.requires.few)

pub returns-then-number-end-clause-here : goal.returns-then-number-end-clause-here
returns-then-number-end-clause-here c = λ inside.
    let next = count-next c.args.runs.now c.loop-self.self.run no_run inside in
    let first = c.loop-self.invariant.first in
    omega (arith, c.if-number-end.true)

pub loop-self-preserved : goal.loop-self-preserved
loop-self-preserved c =
    let next = count-next c.args.runs.now c.loop-self.self.run no_run c.loop-self-test.true in
    let first = c.loop-self.invariant.first in
    record {
      within = omega (arith, c.loop-self-test.true);
      first = omega arith;
      order = omega (arith, c.if-number-end.false);
    }

pub returns-clause-here : goal.returns-clause-here
returns-clause-here c = λ inside. absurd (omega (arith, c.loop-self-test.false))
