-- What a run answers to a step.
use Rattle.std.specs.Prelude.{ℕ, Result, Ok, Err}
use Rattle.desk_replica.specs.declared.answer.TakeFault.{TakeFault}
use Rattle.desk_files.specs.declared.run_fault.RunFault.{RunFault}
use Rattle.desk_files.specs.Cause.{step_fault_of}

-- to what a desk answered to it: lack of memory is the fault of no step
abbrev pub answer_of : {T : Type 0} → (line desk : ℕ) → Result T TakeFault → Result (Unit {0}) RunFault
answer_of line desk (Ok done) = Ok tt
answer_of line desk (Err fault) = Err (step_fault_of line desk fault)
