-- Blanks, LF, and the runs.
use Rattle.std.proofs.Common.{◌≤◌, ◌+◌, ◌^◌, length, take, drop, get_or, flat_map, ap, sym, ◌++◌, ◌∙◌, refl, arith, length-append}
use Rattle.cell_grid.specs.declared.cluster_run.ClusterRun.{ClusterRun}
use Rattle.cell_grid.specs.KeptSpans.{no_span}
use Rattle.cell_grid.specs.Print.{own_text, run_text, row_text}
use Rattle.cell_grid.proofs.RunPrinting.{printable-runs, runs-text}
use Rattle.cell_grid.proofs.Sizes.{row-size, too-long}
use Rattle.cell_grid.proofs.Steps.{flat_map-split_at}
use Rattle.cell_grid.proofs.Writing.{pieces-all}
use Rattle.cell_grid.proofs.print_size.row_print_size.Goals as goal

abbrev no_run : ClusterRun
no_run = record { span = no_span; level = 0; columns = 0 }

pub run_size-own-requires : goal.run_size-own-requires
run_size-own-requires c =
    let from = c.runs-run-items.ensures.entries in
    printable-runs c.args.text.now from.0 c.runs-run-items.result.now c.args.row.now.entries from.1 c.requires c.runs-run-items.ensures.reach c.runs-run-items.ensures.columns
    c.loop-run.run-index no_run c.loop-run-test.true

pub returns : goal.returns
returns c =
    let T = c.args.tables.now in
    let text = c.args.text.now in
    let row = c.args.row.now in
    let runs = c.runs-run-items.result.now in
    let from = c.runs-run-items.ensures.entries in
    let all = ap length (pieces-all (run_text T text) runs c.loop-run.run-index c.loop-run-test.false) in
    let own = ap length (sym (runs-text T text from.0 runs) ∙ ap (flat_map (own_text T text)) from.1) in
    let whole = row-size T text row c.blanks-left.result.0 c.blanks-left.result.1 c.blanks-left.ensures in
    omega (arith, c.loop-run.invariant, all, own, whole, c.from.ensures, c.from-2.ensures)

pub returns-in_err-size : goal.returns-in_err-size
returns-in_err-size c =
    let T = c.args.tables.now in
    let text = c.args.text.now in
    let row = c.args.row.now in
    let runs = c.runs-run-items.result.now in
    let n = c.loop-run.run-index in
    let run = get_or runs n no_run in
    let f = run_text T text in
    let from = c.runs-run-items.ensures.entries in
    let split = ap length (flat_map-split_at f runs n run no_run c.loop-run-test.true refl) in
    let front = length-append (flat_map f (take n runs)) (f run ++ flat_map f (drop (n + 1) runs)) in
    let back = length-append (f run) (flat_map f (drop (n + 1) runs)) in
    let own = ap length (sym (runs-text T text from.0 runs) ∙ ap (flat_map (own_text T text)) from.1) in
    let whole = row-size T text row c.blanks-left.result.0 c.blanks-left.result.1 c.blanks-left.ensures in
    let sum = rw c.in_err-size.ensures.ok_part at c.checked_add.ensures in
    let many : 2 ^ 64 ≤ length (row_text T text row) = omega (arith, sum, c.loop-run.invariant, split, front, back, own, whole, c.run_size-own.ensures, c.from.ensures, c.from-2.ensures) in
    too-long (row_text T text row) c.from_residual.result c.from_residual.ensures.0 many
