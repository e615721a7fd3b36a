-- The desk has taken the files so far.
use Rattle.desk_runs.specs.Setting.{files_in}
use Rattle.desk_runs.proofs.Takes.{HasTaken}
use Rattle.desk_runs.proofs.Rounds.{turn_takes, before}
use Rattle.desk_runs.proofs.replaying.round.take_files.Given as goal

abbrev pub invariant-loop-behind : goal.invariant-loop-behind
invariant-loop-behind l = HasTaken l.setting l.fn.desks (before (turn_takes (files_in l.setting) l.desk) 0 l.behind) l.desks
