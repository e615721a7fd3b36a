-- What stays true in the loop of `hidden_at`.
use Rattle.std.proofs.Common.{◌≡◌, ◌+◌, take, length}
use Rattle.rga_tree.specs.Row.{hidden_ids}
use Rattle.desk_replica.proofs.InTurn.{joined}
use Rattle.desk_replica.proofs.reading.hidden_at.Given as goal

abbrev pub invariant-loop-p : goal.invariant-loop-p
invariant-loop-p g l = l.fn.k ≡ length (hidden_ids (joined (take l.p (g.S.Sequence.parts l.seq)))) + l.left
