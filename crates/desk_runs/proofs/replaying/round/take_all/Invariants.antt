-- The desks so far have taken all files.
use Rattle.desk_runs.specs.Setting.{files_in}
use Rattle.desk_runs.proofs.Takes.{HasTaken}
use Rattle.desk_runs.proofs.Rounds.{takes_of, before}
use Rattle.desk_runs.proofs.replaying.round.take_all.Given as goal

abbrev pub invariant-loop-desk : goal.invariant-loop-desk
invariant-loop-desk l = HasTaken l.setting l.fn.desks (before (takes_of (files_in l.setting)) 1 l.desk) l.desks
