-- One run more, which begins where those before it end.
use Rattle.std.proofs.Common.{◌≡◌, slice_index_or, slice_range, refl, sym, ap, subst, ◌∙◌, arith}
use Rattle.std.specs.Str.{IsCharBoundary}
use Rattle.paragraphs.specs.declared.span.Span.{Span}
use Rattle.cell_grid.specs.declared.cluster_run.ClusterRun.{ClusterRun}
use Rattle.cell_grid.specs.KeptSpans.{no_span}
use Rattle.cell_grid.specs.Print.{run_text}
use Rattle.cell_grid.specs.Runs.{run_span, span_after}
use Rattle.cell_grid.proofs.Printing.{stretch-on}
use Rattle.cell_grid.proofs.RunPrinting.{last-slice, run-order, slices-text}
use Rattle.cell_grid.proofs.printed.slice_at.Goals as goal

abbrev no_run : ClusterRun
no_run = record { span = no_span; level = 0; columns = 0 }

pub loop-number-preserved : goal.loop-number-preserved
loop-number-preserved c =
    let text = c.args.text.now in
    let runs = c.args.runs.now in
    let n = c.loop-number.number in
    let r = slice_index_or runs n no_run in
    let h = c.requires.runs n no_run c.loop-number-test.true in
    let last = c.end_byte-end.ensures in
    let order = run-order text r h in
    let at = sym (ap (λ (s : Span). s.first_byte) c.read-first.ensures) ∙ c.if-first-end.false in
    let own : run_text c.args.tables.now text r ≡ slice_range text c.loop-number.end c.end_byte-end.result =
    c.prints_its_clusters.ensures c.if-not-prints_its_clusters.false ∙ slices-text text r h (omega (arith, c.if-run-eq1.false))
    ∙ ap (λ k. slice_range text k (span_after r.span.further (run_span r)).end_byte) at ∙ ap (slice_range text c.loop-number.end) (sym last) in
    record {
      order = omega (arith, c.loop-number.invariant.order);
      boundary = subst (IsCharBoundary text) (sym last) (last-slice text r h).end;
      text = stretch-on (run_text c.args.tables.now text) runs n r no_run text c.args.start c.loop-number.end c.end_byte-end.result
          c.loop-number-test.true refl c.loop-number.invariant.text own c.loop-number.invariant.order (omega arith);
    }
