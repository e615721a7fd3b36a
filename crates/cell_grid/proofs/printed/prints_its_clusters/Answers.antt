-- Clusters that have columns, and no code point that is replaced at their level, are shown by their bytes.
use Rattle.std.proofs.Common.{sym, ap, ◌∙◌, arith, slice_range}
use Rattle.std.specs.List.{list_any}
use Rattle.paragraphs.specs.Text.{code_points}
use Rattle.paragraphs.specs.declared.span.Span.{Span}
use Rattle.cell_grid.specs.Print.{separates_segments}
use Rattle.cell_grid.specs.Runs.{run_span}
use Rattle.cell_grid.proofs.RunPrinting.{is_replaced, even-clusters, kept-clusters}
use Rattle.cell_grid.proofs.printed.prints_its_clusters.Goals as goal

pub returns-then-run-eq0-2 : goal.returns-then-run-eq0-2
returns-then-run-eq0-2 c h =
    let text = c.args.text.now in
    let r = c.args.run.now in
    let last = c.end_byte-end.ensures in
    let first = ap (λ (s : Span). s.first_byte) c.read-first.ensures in
    let slice = c.range-clusters.ensures.value ∙ ap (λ k. slice_range text k c.end_byte-end.result) first ∙ ap (slice_range text (run_span r).first_byte) last in
    let none = ap (λ t. list_any (separates_segments c.args.tables.now) (code_points t)) (sym slice) ∙ c.is_one_segment.ensures h in
    even-clusters c.args.tables.now text r c.requires c.utf8.text (omega (arith, c.if-run-eq0.false)) (omega (arith, c.if-run-eq0-2.true)) none

pub returns-else-run-eq0-2 : goal.returns-else-run-eq0-2
returns-else-run-eq0-2 c h =
    let text = c.args.text.now in
    let r = c.args.run.now in
    let last = c.end_byte-end.ensures in
    let first = ap (λ (s : Span). s.first_byte) c.read-first.ensures in
    let slice = c.range-clusters.ensures.value ∙ ap (λ k. slice_range text k c.end_byte-end.result) first ∙ ap (slice_range text (run_span r).first_byte) last in
    let none = ap (λ t. list_any (is_replaced c.args.tables.now) (code_points t)) (sym slice) ∙ c.is_shown_as_it_is.ensures h in
    kept-clusters c.args.tables.now text r c.requires c.utf8.text (omega (arith, c.if-run-eq0.false)) none
