-- The goals of `fill` that are answered by hand.
use Rattle.std.proofs.Common.{ap, ◌∙◌, cond, get_or, arith}
use Rattle.unicode_tables.proofs.Fills.{written-more, written-all}
use Rattle.unicode_tables.proofs.page.fill.Goals as goal

pub loop-k-preserved : goal.loop-k-preserved
loop-k-preserved g c = (
  λ j d. written-more c.args.from c.loop-k.k j c.loop-k.row c.args.row.now c.args.value d (omega arith) (omega arith) (c.loop-k.invariant.0 j d),
  omega arith,
)

pub returns-clause-value : goal.returns-clause-value
returns-clause-value g c = λ j d.
    c.loop-k.invariant.0 j d
    ∙ ap (λ b. cond b c.args.value (get_or c.args.row.now j d)) (written-all c.args.from c.args.to c.loop-k.k j (omega arith) (omega arith) (omega arith))
