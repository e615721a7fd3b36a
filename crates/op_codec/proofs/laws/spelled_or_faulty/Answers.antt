-- The goals of `spelled_or_faulty` that are answered by hand.
use Rattle.op_codec.proofs.Complete.{told}
use Rattle.op_codec.proofs.Unique.{never_both, one_fault}
use Rattle.op_codec.proofs.laws.spelled_or_faulty.Goals as goal

pub returns-clause-never_both : goal.returns-clause-never_both
returns-clause-never_both c = never_both

pub returns-clause-one_fault : goal.returns-clause-one_fault
returns-clause-one_fault c = one_fault

pub returns-clause-either : goal.returns-clause-either
returns-clause-either c = told
