-- The goals of `scheduled_or_faulty` that are answered by hand.
use Rattle.std.proofs.Common.{inl, inr, refl, sym, ◌∙◌}
use Rattle.std.specs.Str.Lines.{lines}
use Rattle.desk_files.specs.Schedule.{fault_in, steps_from}
use Rattle.desk_files.proofs.laws.scheduled_or_faulty.Goals as goal

pub returns-clause-either : goal.returns-clause-either
returns-clause-either c = λ files bytes. elim (c.first_fault.ensures.either (fault_in files) (lines bytes)) [
  | inl faultless ↦ inl (steps_from files 1 (lines bytes), record { faultless = faultless; said = refl })
  | inr faulty ↦ inr faulty
]

pub returns-clause-one_list : goal.returns-clause-one_list
returns-clause-one_list c = λ files bytes a b p q. p.said ∙ sym q.said

pub returns-clause-never_both : goal.returns-clause-never_both
returns-clause-never_both c = λ files bytes steps n fault p q. c.first_fault.ensures.never_both (fault_in files) (lines bytes) n fault p.faultless q

pub returns-clause-one_fault : goal.returns-clause-one_fault
returns-clause-one_fault c = λ files bytes m n f g p q. c.first_fault.ensures.one_fault (fault_in files) (lines bytes) m n f g p q
