-- A run that doesn't go on where the one on its left ends is one more.
use Rattle.std.proofs.Common.{ℕ, ◌+◌, ◌-◌, cond, take, get_or, refl, sym, ap, ◌∙◌, arith}
use Rattle.std.proofs.lemmas.Bool.{eqb-true}
use Rattle.cell_grid.specs.declared.cluster_run.ClusterRun.{ClusterRun}
use Rattle.cell_grid.specs.KeptSpans.{no_span}
use Rattle.cell_grid.specs.RunCounts.{run_count}
use Rattle.cell_grid.specs.Runs.{runs_entries}
use Rattle.cell_grid.proofs.GoingOn.{count-none, count-to-one, count-to-next}
use Rattle.cell_grid.proofs.Passing.{some-runs}
use Rattle.cell_grid.proofs.Steps.{take-whole}
use Rattle.cell_grid.proofs.run_count.run_count.Goals as goal
use Rattle.cell_grid.proofs.run_count.run_count.Goals.{then-not-goes_on, else-not-goes_on}

abbrev no_run : ClusterRun
no_run = record { span = no_span; level = 0; columns = 0 }

pub loop-number-init : goal.loop-number-init
loop-number-init c =
    let some = some-runs c.args.runs.now c.if-is_empty.ensures in
    record { counted = λ start. sym (count-to-one start c.args.runs.now some); few = omega arith }

pub returns-then-is_empty : goal.returns-then-is_empty
returns-then-is_empty c = λ start. sym (count-none start c.args.runs.now (eqb-true _ _ (sym c.if-is_empty.ensures)))

pub loop-number-preserved : goal.loop-number-preserved
loop-number-preserved c =
    let runs = c.args.runs.now in
    let n = c.loop-number.number in
    let step = λ (start : ℕ). count-to-next start runs n (n - 1) (get_or runs (n - 1) no_run) (get_or runs n no_run) no_run c.goes_on.result (omega arith) (omega arith) refl refl c.goes_on.ensures in
    elim c.if-not-goes_on.branch [
      | then-not-goes_on w ↦ record {
        counted = λ start. (let more = step start ∙ ap (λ b. run_count (runs_entries start (take n runs)) + cond b 0 1) w.if-not-goes_on.true in omega (arith, more, c.loop-number.invariant.counted start, w.count-is));
        few = omega (arith, c.loop-number.invariant.few, w.count-is);
      }
      | else-not-goes_on w ↦ record {
        counted = λ start. (let more = step start ∙ ap (λ b. run_count (runs_entries start (take n runs)) + cond b 0 1) w.if-not-goes_on.false in omega (arith, more, c.loop-number.invariant.counted start, w.count-is));
        few = omega (arith, c.loop-number.invariant.few, w.count-is);
      }
    ]

pub returns : goal.returns
returns c = λ start. c.loop-number.invariant.counted start ∙ ap (λ runs. run_count (runs_entries start runs)) (take-whole c.args.runs.now c.loop-number.number (omega arith))
