-- The goals of `version_two_length` that are answered by hand.
use Rattle.op_codec.proofs.Migrations.{two_no_longer, two_as_long}
use Rattle.op_codec.proofs.laws.version_two_length.Goals as goal

pub returns-clause-no_longer : goal.returns-clause-no_longer
returns-clause-no_longer c = two_no_longer

pub returns-clause-as_long : goal.returns-clause-as_long
returns-clause-as_long c = two_as_long
