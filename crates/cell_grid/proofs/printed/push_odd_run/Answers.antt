-- A run ends no sooner than it begins.
use Rattle.std.proofs.Common.{ap, arith}
use Rattle.paragraphs.specs.declared.span.Span.{Span}
use Rattle.cell_grid.proofs.KeptSpans.{kept-order}
use Rattle.cell_grid.proofs.printed.push_odd_run.Goals as goal

pub overflow_sub-all : goal.overflow_sub-all
overflow_sub-all c =
    let order = kept-order c.args.run.now.span in
    let first = ap (λ (s : Span). s.first_byte) c.read-first.ensures in
    let end = c.end_byte.ensures in
    omega arith
