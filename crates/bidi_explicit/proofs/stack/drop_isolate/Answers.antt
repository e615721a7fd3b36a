-- The goals of `drop_isolate` that are answered by hand.
use Rattle.std.proofs.Common.{◌∙◌, sym, ap, cond, reverse}
use Rattle.bidi_explicit.specs.Flat.{below_isolate}
use Rattle.bidi_explicit.proofs.LadderLemmas.{below_isolate-last}
use Rattle.bidi_explicit.proofs.stack.drop_isolate.Goals as goal

pub returns-then-entry : goal.returns-then-entry
returns-then-entry c =
    let rest = reverse c.pop.new.self.items in
    sym (sym c.loop-entry.invariant
    ∙ below_isolate-last c.loop-entry.stack.items c.pop.new.self.items c.in-Some.entry c.in-Some.ensures.items
    ∙ ap (λ b. cond b rest (below_isolate rest)) c.if-entry.true)

pub loop-entry-preserved : goal.loop-entry-preserved
loop-entry-preserved c =
    let rest = reverse c.pop.new.self.items in
    sym (below_isolate-last c.loop-entry.stack.items c.pop.new.self.items c.in-Some.entry c.in-Some.ensures.items
    ∙ ap (λ b. cond b rest (below_isolate rest)) c.if-entry.false)
    ∙ c.loop-entry.invariant
