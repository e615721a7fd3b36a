-- What stays true in the loop of `read_schedule`.
use Rattle.std.proofs.Common.{◌+◌, ◌≤◌, length}
use Rattle.std.specs.List.{AllByRecursion}
use Rattle.desk_files.specs.Files.{lists_of}
use Rattle.desk_files.specs.Schedule.{IsStepOf}
use Rattle.desk_files.proofs.ReadSteps.{AreStepsRead}
use Rattle.desk_files.proofs.schedule.read_schedule.Given as goal

abbrev pub invariant-loop-rest : goal.invariant-loop-rest
invariant-loop-rest l = record {
  read : AreStepsRead (lists_of l.files) l.schedule l.rest l.number l.steps.items;
  there : AllByRecursion (λ s. IsStepOf (lists_of l.files) s.step) l.steps.items;
  within : l.number + length l.rest ≤ length l.schedule;
}

abbrev pub decreases-loop-rest : goal.decreases-loop-rest
decreases-loop-rest l = length l.rest
