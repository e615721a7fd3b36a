-- The goals of `take_all` that are answered by hand.
use Rattle.std.proofs.Common.{sym, subst, drop}
use Rattle.std.proofs.lemmas.List.{take_rest}
use Rattle.desk_replica.specs.Desk.{Desk}
use Rattle.desk_replica.specs.Taking.{AreTaken, IsRefusedNext}
use Rattle.desk_replica.proofs.InFront.{taken_behind, refused_behind}
use Rattle.desk_replica.proofs.replica.Replica.take_all.Goals as goal

pub loop-taken-preserved : goal.loop-taken-preserved
loop-taken-preserved g c =
    let ops = c.args.ops.now in
    let taken = c.loop-taken.taken in
    let now = c.loop-taken.self in
    let after = c.take_some.new.self in
    record {
      taken = taken_behind c.args.self.now now after ops taken c.in-Ok.more c.loop-taken.invariant.taken (subst (λ l. AreTaken now l c.in-Ok.more after) (take_rest ops taken) c.in-Ok.ensures.ok);
      limited = c.in-Ok.ensures.limited;
    }

pub returns-in-Err-clause-fault : goal.returns-in-Err-clause-fault
returns-in-Err-clause-fault g c =
    let ops = c.args.ops.now in
    let taken = c.loop-taken.taken in
    let fault = c.in-Err.fault in
    refused_behind c.take_some.new.self ops taken fault
    (subst (λ (d : Desk). IsRefusedNext d (drop taken ops) 0 fault) (sym c.in-Err.ensures.err) (subst (λ l. IsRefusedNext c.loop-taken.self l 0 fault) (take_rest ops taken) c.in-Err.ensures.fault))
