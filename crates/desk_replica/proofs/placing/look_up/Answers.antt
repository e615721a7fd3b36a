-- The goals of `look_up` that are answered by hand.
use Rattle.std.proofs.Common.{◌≢◌, subst, ◌∙◌, rules, arith}
use Rattle.bg_types.specs.OperationSet.{Holds, MayJoin, ReusesIdentifier}
use Rattle.desk_replica.specs.Placement.{whole}
use Rattle.desk_replica.proofs.Counters.{newest-is_new}
use Rattle.desk_replica.proofs.Looks.{new-insertion, reused-insertion}
use Rattle.desk_replica.proofs.placing.look_up.Goals as goal

pub returns-then-counter_of-greatest : goal.returns-then-counter_of-greatest
returns-then-counter_of-greatest g c =
    let s = whole (g.S.Sequence.content c.args.seq.now) c.args.held.now in
    newest-is_new s c.args.op.now (omega (arith, c.requires.greatest, c.counter_of.ensures.counter, c.if-counter_of-greatest.true))

pub returns-in-None : goal.returns-in-None
returns-in-None g c =
    let s = whole (g.S.Sequence.content c.args.seq.now) c.args.held.now in
    subst (λ o. MayJoin s o × (¬ (Holds s o))) c.in-Insert.ensures.value (new-insertion s c.in-Insert.id c.in-Insert.parent c.in-Insert.ch c.in-None.ensures)

pub returns-in-Some-2 : goal.returns-in-Some-2
returns-in-Some-2 g c =
    let s = whole (g.S.Sequence.content c.args.seq.now) c.args.held.now in
    let apart : c.in-Some.kept ≢ c.args.op.now = search rules in
    subst (ReusesIdentifier s) c.in-Insert.ensures.value
    (reused-insertion s c.in-Insert.id c.in-Insert.parent c.in-Insert.ch c.in-Some.kept c.in-Some.ensures (λ e. apart (e ∙ c.in-Insert.ensures.value)))
