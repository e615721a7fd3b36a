-- The goals of `count_waiting` that are answered by hand.
use Rattle.std.proofs.Common.{arith, refl}
use Rattle.bg_types.specs.OperationSet.{size}
use Rattle.desk_replica.proofs.Bounds.{lists_none}
use Rattle.desk_replica.proofs.placing.count_waiting.Goals as goal

pub returns-else-count-gt0-clause-each_once : goal.returns-else-count-gt0-clause-each_once
returns-else-count-gt0-clause-each_once c =
    let n = c.count-count.ensures in
    let z = c.if-count-gt0.false in
    lists_none c.args.held.now.held c.args.held.now.listed (size c.args.held.now.held) refl (omega (arith, n, z))
