-- One run more.
use Rattle.std.proofs.Common.{◌++◌, take, flat_map, slice_index_or, refl, sym, ap, ◌∙◌, append_assoc}
use Rattle.cell_grid.specs.declared.cluster_run.ClusterRun.{ClusterRun}
use Rattle.cell_grid.specs.KeptSpans.{no_span}
use Rattle.cell_grid.specs.Print.{run_text}
use Rattle.cell_grid.proofs.Steps.{flat_map-take_next}
use Rattle.cell_grid.proofs.printed.push_odd_runs.Goals as goal

abbrev no_run : ClusterRun
no_run = record { span = no_span; level = 0; columns = 0 }

pub loop-number-preserved : goal.loop-number-preserved
loop-number-preserved c =
    let f = run_text c.args.tables.now c.args.text.now in
    let runs = c.args.runs.now in
    let n = c.loop-number.number in
    let before = c.args.held.now.bytes in
    let r = slice_index_or runs n no_run in
    c.push_odd_run.ensures.put c.if-not-push_odd_run.false
    ∙ ap (λ t. t ++ f r) c.loop-number.invariant
    ∙ append_assoc before (flat_map f (take n runs)) (f r)
    ∙ ap (λ t. before ++ t) (sym (flat_map-take_next f runs n r no_run c.loop-number-test.true refl))
