-- As many sizes behind its start as it has clusters.
use Rattle.std.proofs.Common.{◌≡◌, ◌+◌, ◌-◌, ◌*◌, ap, ◌∙◌, arith}
use Rattle.paragraphs.specs.declared.span.Span.{Span}
use Rattle.cell_grid.specs.Runs.{run_span, byte_count}
use Rattle.cell_grid.proofs.KeptSpans.{kept-order, sizes-end}
use Rattle.cell_grid.proofs.cluster_run.ClusterRun.end_byte.Goals as goal

pub overflow_sub-bytes : goal.overflow_sub-bytes
overflow_sub-bytes c =
    let order = kept-order c.args.self.now.span in
    let first = ap (λ (s : Span). s.first_byte) c.read-first.ensures in
    let end = ap (λ (s : Span). s.end_byte) c.read-first.ensures in
    omega arith

pub overflow_mul-result : goal.overflow_mul-result
overflow_mul-result c =
    let r = c.args.self.now in
    let order = kept-order r.span in
    let e : (run_span r).end_byte ≡ (run_span r).first_byte + byte_count (run_span r) = omega arith in
    let all = sizes-end r.span.further c.count.result (run_span r).first_byte (run_span r).end_byte (byte_count (run_span r)) _ c.count.ensures.number (ap byte_count c.read-first.ensures) e in
    let fits = c.requires.end_byte in
    omega arith

pub overflow_add-result : goal.overflow_add-result
overflow_add-result c =
    let r = c.args.self.now in
    let order = kept-order r.span in
    let e : (run_span r).end_byte ≡ (run_span r).first_byte + byte_count (run_span r) = omega arith in
    let all = sizes-end r.span.further c.count.result (run_span r).first_byte (run_span r).end_byte (byte_count (run_span r)) _ c.count.ensures.number (ap byte_count c.read-first.ensures) e in
    let first = ap (λ (s : Span). s.first_byte) c.read-first.ensures in
    let fits = c.requires.end_byte in
    omega arith

pub returns : goal.returns
returns c =
    let r = c.args.self.now in
    let order = kept-order r.span in
    let e : (run_span r).end_byte ≡ (run_span r).first_byte + byte_count (run_span r) = omega arith in
    ap (λ (s : Span). s.first_byte + c.count.result * (c.read-first.result.end_byte - c.read-first.result.first_byte)) c.read-first.ensures
    ∙ sizes-end r.span.further c.count.result (run_span r).first_byte (run_span r).end_byte (byte_count (run_span r)) _ c.count.ensures.number (ap byte_count c.read-first.ensures) e
