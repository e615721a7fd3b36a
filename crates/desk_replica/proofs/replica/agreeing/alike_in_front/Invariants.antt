-- What stays true in the loop of `alike_in_front`.
use Rattle.std.proofs.Common.{◌≡◌, take}
use Rattle.desk_replica.specs.Listed.{insertions_in}
use Rattle.desk_replica.proofs.replica.agreeing.alike_in_front.Given as goal

abbrev pub invariant-loop-at : goal.invariant-loop-at
invariant-loop-at l = insertions_in (take l.at l.one) ≡ insertions_in (take l.at l.other)
