-- The rows of some more paragraphs are dropped.
use Rattle.std.proofs.Common.{refl, ◌∙◌, arith}
use Rattle.live_document.proofs.Thinned.{laid-left, less-left, less-between, inside-all, kept-left}
use Rattle.live_document.proofs.keeping.thin_out.Goals as goal

pub loop-step-init : goal.loop-step-init
loop-step-init c = record { paragraphs = refl; laid = λ tables width base all. all; inside = λ k low high. refl; no_more = λ k there. there; within = omega arith; less = omega arith }

pub kept_weight-left-requires : goal.kept_weight-left-requires
kept_weight-left-requires c =
    let less = less-left _ 0 c.loop-step.buffer c.forget_in_turn.new.self c.forget_in_turn.ensures.kept in
    omega (arith, less, c.loop-step.invariant.less, c.requires)

pub returns-then-left-most : goal.returns-then-left-most
returns-then-left-most c =
    let was = c.loop-step.invariant in
    let e = c.forget_in_turn.ensures in
    let now = c.forget_in_turn.new.self in
    record {
      paragraphs = e.paragraphs ∙ was.paragraphs;
      laid = λ tables width base all. laid-left tables width base _ 0 c.loop-step.buffer now e.paragraphs e.kept (was.laid tables width base all);
      inside = λ k low high. inside-all _ c.loop-step.buffer now e.kept k low high ∙ was.inside k low high;
      no_more = λ k there. was.no_more k (kept-left _ 0 c.loop-step.buffer now e.kept k there);
      within = (let less = less-between _ c.loop-step.buffer now c.args.from c.args.to e.kept in omega (arith, less, was.within));
      less = (let less = less-left _ 0 c.loop-step.buffer now e.kept in omega (arith, less, was.less));
      held = c.kept_weight-left.ensures;
    }

pub loop-step-preserved : goal.loop-step-preserved
loop-step-preserved c =
    let was = c.loop-step.invariant in
    let e = c.forget_in_turn.ensures in
    let now = c.forget_in_turn.new.self in
    record {
      paragraphs = e.paragraphs ∙ was.paragraphs;
      laid = λ tables width base all. laid-left tables width base _ 0 c.loop-step.buffer now e.paragraphs e.kept (was.laid tables width base all);
      inside = λ k low high. inside-all _ c.loop-step.buffer now e.kept k low high ∙ was.inside k low high;
      no_more = λ k there. was.no_more k (kept-left _ 0 c.loop-step.buffer now e.kept k there);
      within = (let less = less-between _ c.loop-step.buffer now c.args.from c.args.to e.kept in omega (arith, less, was.within));
      less = (let less = less-left _ 0 c.loop-step.buffer now e.kept in omega (arith, less, was.less));
    }
