-- The goals of `do_steps` that are answered by hand.
use Rattle.std.proofs.Common.{get_or, refl}
use Rattle.desk_replica.specs.declared.world.step.Step.{Step}
use Rattle.desk_replica.specs.declared.world.step.Step.TheVariants.{Typed}
use Rattle.desk_replica.proofs.WorldSteps.{next_step}
use Rattle.desk_replica.proofs.world.steps.do_steps.Goals as goal

abbrev none : Step
none = Typed 0 0 0

pub loop-step-preserved : goal.loop-step-preserved
loop-step-preserved g c =
    next_step c.args.desks.now c.loop-step.desks c.do_step.new.desks c.args.made.now.items c.loop-step.made.items c.do_step.new.made.items c.args.steps.now c.loop-step.step-index none
    (get_or c.args.steps.now c.loop-step.step-index none) c.loop-step.replies.items c.push.new.self.items c.in_ok-reply.reply
    c.loop-step-test.true refl c.in_ok-push.ensures.items c.loop-step.invariant c.in_ok-reply.ensures
