-- The goals of `replay_is_decided` that are answered by hand.
use Rattle.desk_runs.proofs.OnePlan.{ScheduleLaws}
use Rattle.desk_runs.proofs.OneRefusal.{RefusalLaws}
use Rattle.desk_runs.proofs.ReplayDecided.{replay_decided}
use Rattle.desk_runs.proofs.laws.replay_is_decided.Goals as goal

pub returns : goal.returns
returns c = λ g old new failed result.
    let schedules : ScheduleLaws = record { never_both = c.scheduled_or_faulty.ensures.never_both; one_fault = c.scheduled_or_faulty.ensures.one_fault } in
    let refusals : RefusalLaws = record { alike = c.one_refusal.ensures.alike; merges = c.one_refusal.ensures.merges } in
    replay_decided schedules refusals g (c.one_outcome.ensures g.files) old new failed result
