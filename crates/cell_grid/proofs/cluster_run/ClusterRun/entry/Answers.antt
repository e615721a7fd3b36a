-- The entries before it in the run have its columns.
use Rattle.std.proofs.Common.{ℕ, ◌+◌, ◌*◌, ap, ◌∙◌, arith}
use Rattle.paragraphs.specs.declared.span.Span.{Span}
use Rattle.cell_grid.specs.declared.entry.Entry.{Entry}
use Rattle.cell_grid.specs.Runs.{run_span, span_after, cluster_from_left}
use Rattle.cell_grid.proofs.Reaching.{columns-within}
use Rattle.cell_grid.proofs.cluster_run.ClusterRun.entry.Goals as goal

pub overflow_mul-before : goal.overflow_mul-before
overflow_mul-before c =
    let all = columns-within c.args.self.now c.args.number c.requires.within in
    let is = ap (λ n. n * c.from-2.result) c.from.ensures ∙ ap (λ n. c.args.number * n) c.from-2.ensures in
    let fits = c.requires.fits in
    omega arith

pub overflow_add-column : goal.overflow_add-column
overflow_add-column c =
    let all = columns-within c.args.self.now c.args.number c.requires.within in
    let is = ap (λ n. n * c.from-2.result) c.from.ensures ∙ ap (λ n. c.args.number * n) c.from-2.ensures in
    let fits = c.requires.fits in
    omega arith

pub returns : goal.returns
returns c =
    let r = c.args.self.now in
    let make : Span → ℕ → Entry = λ span before. record { span = span; column = c.args.column + before; level = r.level; columns = r.columns } in
    ap (λ s. make s (c.from.result * c.from-2.result)) (c.cluster-span.ensures ∙ ap (λ k. span_after k (run_span r)) c.cluster_from_left-cluster.ensures.which)
    ∙ ap (λ n. make (span_after (cluster_from_left r c.args.number) (run_span r)) (n * c.from-2.result)) c.from.ensures
    ∙ ap (λ n. make (span_after (cluster_from_left r c.args.number) (run_span r)) (c.args.number * n)) c.from-2.ensures
