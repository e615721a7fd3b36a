-- What stays true in the loop of `do_steps`.
use Rattle.std.proofs.Common.{take}
use Rattle.desk_replica.specs.WorldRun.{DoSteps}
use Rattle.desk_replica.proofs.world.steps.do_steps.Given as goal

abbrev pub invariant-loop-step : goal.invariant-loop-step
invariant-loop-step g l = DoSteps l.fn.desks l.fn.made.items (take l.step-index l.steps) l.desks l.made.items l.replies.items
