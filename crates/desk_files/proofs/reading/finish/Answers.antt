-- The goals of `finish` that are answered by hand.
use Rattle.std.proofs.Common.{◌≡◌, sym, subst}
use Rattle.desk_files.specs.declared.run_fault.RunFault.{RunFault}
use Rattle.desk_files.specs.Reading.{Flaw, IsFlawed, flaw_fault}
use Rattle.desk_files.proofs.Feeding.{whole_faulty}
use Rattle.desk_files.proofs.reading.finish.Goals as goal

pub returns-in-Err-clause-fault : goal.returns-in-Err-clause-fault
returns-in-Err-clause-fault c =
    λ bytes ops stands within. subst (λ (f : RunFault). (flaw : Flaw) × (f ≡ flaw_fault c.args.number flaw) × IsFlawed bytes flaw) (sym c.file_fault.ensures)
    (whole_faulty bytes c.args.number c.in-Err.fault within (c.in-Err.ensures.fault bytes ops stands) c.in-Err.ensures.no_memory)

pub returns-in-Ok-clause-ok : goal.returns-in-Ok-clause-ok
returns-in-Ok-clause-ok c = λ bytes ops stands within. record { spelled = c.in-Ok.ensures.ok bytes ops stands; within = within }
