-- The first runs are a beginning of all.
use Rattle.std.proofs.Common.{◌≡◌, [], ◌++◌, get_or, take, drop, flat_map, refl, sym, ap, subst, ◌∙◌, arith, append_assoc, append-nil}
use Rattle.std.specs.Str.{IsCharBoundary}
use Rattle.paragraphs.specs.declared.span.Span.{Span}
use Rattle.cell_grid.specs.declared.cluster_run.ClusterRun.{ClusterRun}
use Rattle.cell_grid.specs.KeptSpans.{no_span}
use Rattle.cell_grid.specs.Held.{AppendsAllBut}
use Rattle.cell_grid.specs.Print.{run_text}
use Rattle.cell_grid.specs.Runs.{cluster_count}
use Rattle.cell_grid.proofs.HeldEnd.{but-start, begins-longer}
use Rattle.cell_grid.proofs.Printing.{pieces-parts}
use Rattle.cell_grid.proofs.RunPrinting.{none-text, first-slice}
use Rattle.cell_grid.proofs.Steps.{flat_map-take_next, flat_map-split_at}
use Rattle.cell_grid.proofs.Writing.{on_err}
use Rattle.cell_grid.proofs.printed.hold_first.Goals as goal

abbrev no_run : ClusterRun
no_run = record { span = no_span; level = 0; columns = 0 }

pub returns-then-first-eq0-clause-ok : goal.returns-then-first-eq0-clause-ok
returns-then-first-eq0-clause-ok g c =
    let known = g.W.Sink.written c.args.sink.now in
    let before = c.args.held.now.bytes in
    let f = run_text c.args.tables.now c.args.text.now in
    let runs = c.args.runs.now in
    let r = get_or runs 0 no_run in
    let columns : r.columns ≡ 0 = omega (arith, c.if-first-eq0.true) in
    let none : flat_map f (take 1 runs) ≡ [] = flat_map-take_next f runs 0 r no_run c.requires.some refl ∙ none-text c.args.tables.now c.args.text.now r columns 0 (cluster_count r) in
    subst (λ t. AppendsAllBut known known (before ++ t) before) (sym none) (but-start known before)

pub slice_at-count-requires-clause-start : goal.slice_at-count-requires-clause-start
slice_at-count-requires-clause-start g c =
    subst (λ (s : Span). IsCharBoundary c.args.text.now s.first_byte) (sym c.read-span.ensures)
    (first-slice c.args.text.now (get_or c.args.runs.now 0 no_run) (c.requires.runs 0 no_run c.requires.some)).start

pub range-requires-clause-start_boundary : goal.range-requires-clause-start_boundary
range-requires-clause-start_boundary g c = λ _.
    subst (λ (s : Span). IsCharBoundary c.args.text.now s.first_byte) (sym c.read-span.ensures)
    (first-slice c.args.text.now (get_or c.args.runs.now 0 no_run) (c.requires.runs 0 no_run c.requires.some)).start

pub returns-in_err-hold_text-clause-err : goal.returns-in_err-hold_text-clause-err
returns-in_err-hold_text-clause-err g c =
    let before = c.args.held.now.bytes in
    let f = run_text c.args.tables.now c.args.text.now in
    let runs = c.args.runs.now in
    let rest = flat_map f (drop c.slice_at-count.result.0 runs) in
    on_err c.from_residual-in_err-hold_text.result
    (begins-longer _ _ (before ++ c.range.result.now) rest _ c.in_err-hold_text.ensures.err
    (ap (λ t. before ++ t) (pieces-parts f runs c.slice_at-count.result.0 ∙ ap (λ t. t ++ rest) (c.slice_at-count.ensures.text ∙ sym c.range.ensures.value))
    ∙ sym (append_assoc before c.range.result.now rest)))

pub returns-in_err-hold_clusters-clause-err : goal.returns-in_err-hold_clusters-clause-err
returns-in_err-hold_clusters-clause-err g c =
    let before = c.args.held.now.bytes in
    let f = run_text c.args.tables.now c.args.text.now in
    let runs = c.args.runs.now in
    let r = get_or runs 0 no_run in
    let rest = flat_map f (drop 1 runs) in
    let none : c.push_odd_runs-count.result ≡ 0 = omega (arith, c.if-count-gt0.false) in
    let same = c.push_odd_runs-count.ensures.held ∙ ap (λ k. before ++ flat_map f (take k runs)) none ∙ append-nil before in
    on_err c.from_residual.result
    (begins-longer _ _ (c.push_odd_runs-count.new.held.bytes ++ f r) rest _ c.in_err-hold_clusters.ensures.err
    (ap (λ t. before ++ t) (flat_map-split_at f runs 0 r no_run c.requires.some refl) ∙ sym (append_assoc before (f r) rest) ∙ ap (λ t. t ++ f r ++ rest) (sym same)))

pub returns-in_err-hold_clusters-2-clause-err : goal.returns-in_err-hold_clusters-2-clause-err
returns-in_err-hold_clusters-2-clause-err g c =
    let before = c.args.held.now.bytes in
    let f = run_text c.args.tables.now c.args.text.now in
    let runs = c.args.runs.now in
    let r = get_or runs 0 no_run in
    let rest = flat_map f (drop 1 runs) in
    on_err c.from_residual-in_err-hold_clusters-2.result
    (begins-longer _ _ (before ++ f r) rest _ c.in_err-hold_clusters-2.ensures.err
    (ap (λ t. before ++ t) (flat_map-split_at f runs 0 r no_run c.requires.some refl) ∙ sym (append_assoc before (f r) rest)))
