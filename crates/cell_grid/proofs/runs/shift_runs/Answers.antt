-- Each run is shifted where it stands.
use Rattle.std.proofs.Common.{get_or, set, ap, sym, subst, ◌∙◌}
use Rattle.cell_grid.specs.declared.cluster_run.ClusterRun.{ClusterRun}
use Rattle.cell_grid.specs.declared.kept_span.KeptSpan.{KeptSpan}
use Rattle.cell_grid.specs.KeptSpans.{no_span}
use Rattle.cell_grid.specs.Runs.{run_span, shifted_run}
use Rattle.cell_grid.specs.Shifting.{MayShift}
use Rattle.cell_grid.proofs.Steps.{halfway-start, halfway-end, halfway-get, halfway-set}
use Rattle.cell_grid.proofs.runs.shift_runs.Goals as goal

abbrev no_run : ClusterRun
no_run = record { span = no_span; level = 0; columns = 0 }

pub loop-run-init : goal.loop-run-init
loop-run-init c = halfway-start (shifted_run c.args.bytes c.args.places) c.args.runs.now

pub later-run-requires : goal.later-run-requires
later-run-requires c =
    let f = shifted_run c.args.bytes c.args.places in
    let i = c.loop-run.run-index in
    let here = ap (λ rs. get_or rs i no_run) c.loop-run.invariant ∙ halfway-get f c.args.runs.now i no_run c.loop-run-test.true in
    let may = c.requires i no_run c.loop-run-test.true in
    subst (λ (r : ClusterRun). MayShift c.args.bytes c.args.places (run_span r)) (sym here) may.first

pub loop-run-preserved : goal.loop-run-preserved
loop-run-preserved c =
    let f = shifted_run c.args.bytes c.args.places in
    let i = c.loop-run.run-index in
    let here = ap (λ rs. get_or rs i no_run) c.loop-run.invariant ∙ halfway-get f c.args.runs.now i no_run c.loop-run-test.true in
    let old = get_or c.loop-run.runs i no_run in
    let new : ClusterRun = record { span = c.later-run.result; level = old.level; columns = old.columns } in
    ap (λ rs. set rs i new) c.loop-run.invariant
    ∙ halfway-set f c.args.runs.now i no_run new c.loop-run-test.true
    (ap (λ (s : KeptSpan). record old { span = s }) c.later-run.ensures ∙ ap f here)

pub returns : goal.returns
returns c =
    c.loop-run.invariant ∙ halfway-end (shifted_run c.args.bytes c.args.places) c.args.runs.now c.loop-run.run-index c.loop-run-test.false
