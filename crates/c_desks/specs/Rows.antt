-- What is behind the handle of a desk: an entry for its type.
use denote.RattleType.{RattleType}
use Rattle.rga_runs.specs.contracts.runs.Runs as runs
use Rattle.rga_runs.specs.contracts.runs.RunsSequence.TheImpl.{ghosts}
use Rattle.desk_replica.specs.contracts.replica.Replica as replica

abbrev pub desk_row : RattleType
desk_row = replica.the_row runs.the_row ghosts
