-- The goals of `desks_of_a_run` that are answered by hand.
use Rattle.desk_runs.proofs.FreshDesks.{fresh-empty, fresh-count, fresh-at}
use Rattle.desk_runs.proofs.laws.desks_of_a_run.Goals as goal

pub returns-clause-count : goal.returns-clause-count
returns-clause-count c = fresh-count

pub returns-clause-desk : goal.returns-clause-desk
returns-clause-desk c = fresh-at

pub returns-clause-empty : goal.returns-clause-empty
returns-clause-empty c = fresh-empty
