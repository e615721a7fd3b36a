-- The goals of `gather` that are answered by hand.
use Rattle.std.proofs.Common.{◌≡◌, ◌+◌, ◌-◌, sym, ap, subst, ◌∙◌, rules, arith}
use Rattle.bg_types.specs.declared.op.OpView.TheVariants.{Insert}
use Rattle.bg_types.specs.declared.op.Place.TheVariants.{After}
use Rattle.desk_replica.proofs.InFront.{IsGathered, gathered_none, gathered_more}
use Rattle.desk_replica.proofs.run.gather.Goals as goal

pub loop-count-init : goal.loop-count-init
loop-count-init c = gathered_none c.args.first c.args.front.now c.args.ops.now c.args.bytes.now (c.counter-counter.result - 1) (omega (arith, c.counter-counter.ensures.value, c.counter-counter.ensures.identifier.counter_positive))

pub loop-count-preserved : goal.loop-count-preserved
loop-count-preserved c =
    let first = c.args.first in
    let front = c.args.front.now in
    let ops = c.args.ops.now in
    let count = c.loop-count.count in
    let id = c.in-Insert.id in
    let parent = c.loop-count.parent in
    let ch = c.in-Insert.ch in
    let more = c.put_char-end.new.bytes in
    let last = c.put_char-end.result in
    let put = c.put_char-end.ensures in
    let below : c.in-Insert.above ≡ parent = search rules in
    let own : id ≡ record { counter = c.loop-count.counter + 1; site = first.site } = c.if-not-is_next.ensures ∙ (λ i. record { counter = c.loop-count.counter + 1; site = c.site.ensures.value i }) in
    let typed : c.index-ops-count.result ≡ Insert id parent ch = sym c.in-Insert.ensures.value ∙ ap (λ p. Insert id p ch) below in
    subst (λ n. IsGathered first front ops more (count + 1) last n (After id)) (sym c.counter-counter-in-Insert.ensures.value)
    (gathered_more first id front parent ops c.index-ops-count.result c.loop-count.bytes more count c.loop-count.end last c.loop-count.counter ch c.loop-count.invariant
    (omega (arith, c.loop-count-test.true, c.loop-count.auto.count-end)) c.index-ops-count.is own typed c.view.ensures.well_formed put.end put.bytes put.utf8)
