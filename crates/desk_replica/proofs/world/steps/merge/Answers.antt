-- The goals of `merge` that are answered by hand.
use Rattle.std.proofs.Common.{arith}
use Rattle.desk_replica.proofs.Replies.{none_merged, merged, merging_refused}
use Rattle.desk_replica.proofs.world.steps.merge.Goals as goal
use Rattle.desk_replica.proofs.world.steps.merge.Goals.{then-desk-desks-via-then-desk-desks, then-desk-desks-via-else-desk-desks+then-from-desks}

pub returns-then-desk-desks : goal.returns-then-desk-desks
returns-then-desk-desks g c =
    none_merged c.args.desks.now c.args.made.now c.args.desk c.args.from
    (λ within other. elim c.then-desk-desks.branch [
      | then-desk-desks-via-then-desk-desks w ↦ omega (arith, within, w.if-desk-desks.true)
      | then-desk-desks-via-else-desk-desks+then-from-desks w ↦ omega (arith, other, w.if-from-desks.true)
    ])

pub returns-in-Ok : goal.returns-in-Ok
returns-in-Ok g c =
    merged c.args.desks.now c.args.made.now c.args.desk c.args.from c.merge_at.new.desks c.if-desk-desks.false c.if-from-desks.false c.merge_at.ensures.sites c.in-Ok.ensures.ok c.in-Ok.ensures.accepted

pub returns-in-Err : goal.returns-in-Err
returns-in-Err g c =
    merging_refused c.args.desks.now c.args.made.now c.args.desk c.args.from c.merge_at.new.desks c.if-desk-desks.false c.if-from-desks.false c.merge_at.ensures.sites c.taking_refused.result c.in-Err.fault
    c.taking_refused.ensures.reply c.in-Err.ensures.fault c.in-Err.ensures.left
