-- Answers that are decided, but for lack of memory.
use Rattle.std.proofs.Common.{◌≡◌, ◌⊎◌, inl, inr, Result, Err, ap}
use Rattle.desk_files.specs.declared.run_fault.RunFault.{RunFault}

abbrev Answer : RunFault → Result (Unit {0}) RunFault
Answer fault = Err fault

pub one_of_two : (fault f g : RunFault) → (fault ≡ f) ⊎ (fault ≡ g) → (Answer fault ≡ Answer f) ⊎ (Answer fault ≡ Answer g)
one_of_two fault f g (inl is) = inl (ap Answer is)
one_of_two fault f g (inr is) = inr (ap Answer is)
