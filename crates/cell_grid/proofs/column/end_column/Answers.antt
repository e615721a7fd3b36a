-- One run more.
use Rattle.std.proofs.Common.{get_or, refl, ap, arith}
use Rattle.cell_grid.specs.declared.cluster_run.ClusterRun.{ClusterRun}
use Rattle.cell_grid.specs.KeptSpans.{no_span}
use Rattle.cell_grid.specs.Runs.{runs_columns}
use Rattle.cell_grid.proofs.RunEntries.{rest-columns}
use Rattle.cell_grid.proofs.Steps.{drop-none}
use Rattle.cell_grid.proofs.column.end_column.Goals as goal

abbrev no_run : ClusterRun
no_run = record { span = no_span; level = 0; columns = 0 }

pub overflow_cast-end : goal.overflow_cast-end
overflow_cast-end c =
    let runs = c.args.runs.now in
    let i = c.loop-run.run-index in
    let wide = rest-columns c.loop-run.end runs i (get_or runs i no_run) no_run c.loop-run-test.true refl in
    let own = c.all_columns.ensures in
    let so_far = c.loop-run.invariant in
    omega arith

pub overflow_add-end : goal.overflow_add-end
overflow_add-end c =
    let runs = c.args.runs.now in
    let i = c.loop-run.run-index in
    let wide = rest-columns c.loop-run.end runs i (get_or runs i no_run) no_run c.loop-run-test.true refl in
    let own = c.all_columns.ensures in
    let so_far = c.loop-run.invariant in
    omega arith

pub loop-run-preserved : goal.loop-run-preserved
loop-run-preserved c =
    let runs = c.args.runs.now in
    let i = c.loop-run.run-index in
    let wide = rest-columns c.loop-run.end runs i (get_or runs i no_run) no_run c.loop-run-test.true refl in
    let own = c.all_columns.ensures in
    let so_far = c.loop-run.invariant in
    omega arith

pub returns : goal.returns
returns c =
    let none = ap runs_columns (drop-none c.args.runs.now c.loop-run.run-index c.loop-run-test.false) in
    let so_far = c.loop-run.invariant in
    omega arith
