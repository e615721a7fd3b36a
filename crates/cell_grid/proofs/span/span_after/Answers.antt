-- So many times the size of a span.
use Rattle.std.proofs.Common.{◌-◌, ◌*◌, ap, ◌∙◌, arith}
use Rattle.cell_grid.specs.Spans.{shifted_span}
use Rattle.cell_grid.proofs.span.span_after.Goals as goal

pub overflow_mul-bytes : goal.overflow_mul-bytes
overflow_mul-bytes c =
    let is = ap (λ n. n * c.saturating_sub-size.result) c.from.ensures ∙ ap (λ n. c.args.count * n) c.saturating_sub-size.ensures in
    let fits = c.requires.end_byte in
    omega arith

pub overflow_mul-places : goal.overflow_mul-places
overflow_mul-places c =
    let is = ap (λ n. n * c.saturating_sub-points.result) c.from-2.ensures ∙ ap (λ n. c.args.count * n) c.saturating_sub-points.ensures in
    let fits = c.requires.end_place in
    omega arith

pub returns : goal.returns
returns c =
    let span = c.args.span in
    let bytes = ap (λ n. n * c.saturating_sub-size.result) c.from.ensures ∙ ap (λ n. c.args.count * n) c.saturating_sub-size.ensures in
    let places = ap (λ n. n * c.saturating_sub-points.result) c.from-2.ensures ∙ ap (λ n. c.args.count * n) c.saturating_sub-points.ensures in
    ap (λ n. shifted_span n (c.from-2.result * c.saturating_sub-points.result) span) bytes
    ∙ ap (λ n. shifted_span (c.args.count * (span.end_byte - span.first_byte)) n span) places
