-- The number of the low and the high bits of each.
use Rattle.std.proofs.Common.{◌+◌, ap, ◌∙◌}
use Rattle.cell_grid.specs.KeptSpans.{number_of, span_kept}
use Rattle.cell_grid.proofs.Alone.{span-is}
use Rattle.cell_grid.proofs.kept_span.KeptSpan.read.Goals as goal

pub returns : goal.returns
unfolding span_kept
returns c =
    let byte = c.whole-first_byte.ensures in
    let place = c.whole-first_place.ensures in
    let bytes = c.whole.ensures in
    let points = c.points.ensures in
    span-is _ _ _ _ (span_kept c.args.self) byte
    (ap (λ n. n + c.whole.result) byte ∙ ap (λ n. number_of c.args.self.byte c.args.self.byte_high + n) bytes) place
    (ap (λ n. n + c.points.result) place ∙ ap (λ n. number_of c.args.self.place c.args.self.place_high + n) points)
