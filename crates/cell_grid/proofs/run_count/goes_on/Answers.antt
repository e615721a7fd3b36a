-- The last entry of a run, and the first of another.
use Rattle.std.proofs.Common.{sym, ap, ◌∙◌, arith}
use Rattle.std.proofs.lemmas.Bool.{eq-eqb, ne_eqb}
use Rattle.cell_grid.specs.RunCounts.{span_behind, same_span}
use Rattle.cell_grid.specs.Runs.{run_span}
use Rattle.cell_grid.proofs.GoingOn.{other-level, other-columns, other-sizes, goes-odd, goes-even}
use Rattle.cell_grid.proofs.run_count.goes_on.Goals as goal

pub returns-then-left-right : goal.returns-then-left-right
returns-then-left-right c = λ column next. sym (other-level c.args.left.now c.args.right.now column next c.if-left-right.true)

pub returns-then-left-right-2 : goal.returns-then-left-right-2
returns-then-left-right-2 c = λ column next. sym (other-columns c.args.left.now c.args.right.now column next c.if-left-right-2.true)

pub returns-then-differs_in_size : goal.returns-then-differs_in_size
returns-then-differs_in_size c = λ column next. sym (other-sizes c.args.left.now c.args.right.now column next (c.differs_in_size.ensures c.if-differs_in_size.true))

pub returns-then-left-eq1 : goal.returns-then-left-eq1
returns-then-left-eq1 c = λ column next.
    let l = c.args.left.now in
    let r = c.args.right.now in
    c.is_next.ensures ∙ ap (same_span (span_behind c.cluster.result)) c.read.ensures ∙ ap (λ s. same_span (span_behind s) (run_span l)) c.cluster.ensures
    ∙ sym (goes-odd l r column next (omega arith) (omega arith) (eq-eqb _ 1 c.if-left-eq1.true))

pub returns : goal.returns
returns c = λ column next.
    let l = c.args.left.now in
    let r = c.args.right.now in
    c.is_next-2.ensures ∙ ap (same_span (span_behind c.cluster-2.result)) c.read-2.ensures ∙ ap (λ s. same_span (span_behind s) (run_span r)) c.cluster-2.ensures
    ∙ sym (goes-even l r column next (omega arith) (omega arith) (ne_eqb _ 1 c.if-left-eq1.false))
