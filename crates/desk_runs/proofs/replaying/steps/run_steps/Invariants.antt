-- The steps so far are done.
use Rattle.std.proofs.Common.{take}
use Rattle.desk_runs.proofs.Running.{HasDone}
use Rattle.desk_runs.proofs.replaying.steps.run_steps.Given as goal

abbrev pub invariant-loop-at : goal.invariant-loop-at
invariant-loop-at g l = HasDone l.setting l.fn.desks (take l.at-index l.steps) l.view l.desks (g.S.Sink.written l.fn.out) (g.S.Sink.written l.out) (g.S.Sink.has_failed l.out)
