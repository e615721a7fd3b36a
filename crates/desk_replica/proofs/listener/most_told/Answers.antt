-- The goals of `most_told` that are answered by hand.
use Rattle.std.proofs.Common.{arith}
use Rattle.desk_replica.proofs.Hearing.{count_within}
use Rattle.desk_replica.proofs.listener.most_told.Goals as goal

pub overflow_add-result : goal.overflow_add-result
overflow_add-result c = let few = count_within c.args.held.now.held c.in-Insert.id c.count_below.result c.count_below.ensures.count in omega (arith, few, c.requires)
