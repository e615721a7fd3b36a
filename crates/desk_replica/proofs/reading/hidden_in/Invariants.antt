-- What stays true in the loop of `hidden_in`.
use Rattle.std.proofs.Common.{◌≡◌, ◌+◌, take, length}
use Rattle.rga_tree.specs.Row.{hidden_ids}
use Rattle.desk_replica.proofs.reading.hidden_in.Given as goal

abbrev pub invariant-loop-e : goal.invariant-loop-e
invariant-loop-e l = l.fn.k ≡ length (hidden_ids (take l.e-index l.row)) + l.left
