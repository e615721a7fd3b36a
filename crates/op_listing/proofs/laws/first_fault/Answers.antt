-- The goals of `first_fault` that are answered by hand.
use Rattle.op_listing.proofs.FirstFault.{either, never_both, one_fault}
use Rattle.op_listing.proofs.laws.first_fault.Goals as goal

pub returns-clause-either : goal.returns-clause-either
returns-clause-either g c = either

pub returns-clause-never_both : goal.returns-clause-never_both
returns-clause-never_both g c = never_both

pub returns-clause-one_fault : goal.returns-clause-one_fault
returns-clause-one_fault g c = one_fault
