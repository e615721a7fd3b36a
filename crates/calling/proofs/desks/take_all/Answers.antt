-- All operations of the list were taken.
use Rattle.std.proofs.Common.{◌≡◌, ◌≤◌, length, subst, arith}
use Rattle.std.proofs.lemmas.List.{take_all}
use Rattle.desk_replica.specs.Merging.{with_operations}
use Rattle.calling.proofs.desks.take_all.Goals as goal

pub returns-in-Ok : goal.returns-in-Ok
returns-in-Ok c =
    let ops = c.args.ops.now in
    let all : length ops ≤ length ops = omega arith in
    subst (λ l. c.take_all.new.self.set ≡ with_operations c.args.desk.now.set l) (take_all (length ops) ops all) c.in-Ok.ensures.ok.set
