-- What stays true in the loop of `came_out_of_order`.
use Rattle.std.proofs.Common.{◌≤◌}
use Rattle.desk_files.proofs.one_desk.came_out_of_order.Given as goal

abbrev pub invariant-loop-k : goal.invariant-loop-k
invariant-loop-k l = record { few : l.falls ≤ l.k }
