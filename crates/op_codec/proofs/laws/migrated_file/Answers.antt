-- The goals of `migrated_file` that are answered by hand.
use Rattle.op_codec.proofs.Migrations.{same_ops, one_migration, some_migration, migrated_again, migrated_itself, migrated_no_longer}
use Rattle.op_codec.proofs.laws.migrated_file.Goals as goal

pub returns-clause-same : goal.returns-clause-same
returns-clause-same c = same_ops

pub returns-clause-one_file : goal.returns-clause-one_file
returns-clause-one_file c = one_migration

pub returns-clause-some_file : goal.returns-clause-some_file
returns-clause-some_file c = some_migration

pub returns-clause-again : goal.returns-clause-again
returns-clause-again c = migrated_again

pub returns-clause-itself : goal.returns-clause-itself
returns-clause-itself c = migrated_itself

pub returns-clause-no_longer : goal.returns-clause-no_longer
returns-clause-no_longer c = migrated_no_longer
