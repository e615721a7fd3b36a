-- The goals of `migrate_outcomes` that are answered by hand.
use Rattle.op_listing.proofs.Outcomes.{FileLaws, migrate-spelled, migrate-faulty, migrate-device}
use Rattle.op_listing.proofs.laws.migrate_outcomes.Goals as goal

pub returns-clause-spelled : goal.returns-clause-spelled
returns-clause-spelled c =
    let laws : FileLaws = record { one_list = c.one_spelling.ensures.one_list; never_both = c.spelled_or_faulty.ensures.never_both; one_fault = c.spelled_or_faulty.ensures.one_fault } in
    migrate-spelled laws

pub returns-clause-faulty : goal.returns-clause-faulty
returns-clause-faulty c =
    let laws : FileLaws = record { one_list = c.one_spelling.ensures.one_list; never_both = c.spelled_or_faulty.ensures.never_both; one_fault = c.spelled_or_faulty.ensures.one_fault } in
    migrate-faulty laws

pub returns-clause-device : goal.returns-clause-device
returns-clause-device c = migrate-device
