-- The desk has taken the operations so far.
use Rattle.desk_runs.proofs.Takes.{HasTaken}
use Rattle.desk_runs.proofs.Rounds.{op_takes, before}
use Rattle.desk_runs.proofs.replaying.round.take_file.Given as goal

abbrev pub invariant-loop-op : goal.invariant-loop-op
invariant-loop-op l = HasTaken l.setting l.fn.desks (before (op_takes l.desk l.file) 1 l.op) l.desks
