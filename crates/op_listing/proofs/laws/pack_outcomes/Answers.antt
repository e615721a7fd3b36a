-- The goals of `pack_outcomes` that are answered by hand.
use Rattle.op_listing.proofs.Outcomes.{pack-listed, pack-faulty, pack-device}
use Rattle.op_listing.proofs.laws.pack_outcomes.Goals as goal

pub returns-clause-listed : goal.returns-clause-listed
returns-clause-listed c = pack-listed

pub returns-clause-faulty : goal.returns-clause-faulty
returns-clause-faulty c = pack-faulty

pub returns-clause-device : goal.returns-clause-device
returns-clause-device c = pack-device
