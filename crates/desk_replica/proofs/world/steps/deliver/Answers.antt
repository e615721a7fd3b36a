-- The goals of `deliver` that are answered by hand.
use Rattle.std.proofs.Common.{arith, refl}
use Rattle.std.proofs.lemmas.Option.{slice_get_read}
use Rattle.desk_replica.proofs.Replies.{none_delivered, delivered, delivery_refused}
use Rattle.desk_replica.proofs.world.steps.deliver.Goals as goal
use Rattle.desk_replica.proofs.world.steps.deliver.Goals.{then-desk-desks-via-then-desk-desks, then-desk-desks-via-else-desk-desks+then-op-made}

pub returns-then-desk-desks : goal.returns-then-desk-desks
returns-then-desk-desks g c =
    none_delivered c.args.desks.now c.args.made.now c.args.desk c.args.op
    (λ within known. elim c.then-desk-desks.branch [
      | then-desk-desks-via-then-desk-desks w ↦ omega (arith, within, w.if-desk-desks.true)
      | then-desk-desks-via-else-desk-desks+then-op-made w ↦ omega (arith, known, w.if-op-made.true)
    ])

pub returns-in-Ok : goal.returns-in-Ok
returns-in-Ok g c =
    let made = c.args.made.now in
    let at = slice_get_read made _ c.args.op c.index-made-op.result refl c.if-op-made.false c.index-made-op.is in
    delivered c.args.desks.now made c.args.desk c.args.op c.index-made-op.result c.take_at.new.desks c.if-desk-desks.false c.if-op-made.false at c.take_at.ensures.sites c.in-Ok.ensures.ok c.in-Ok.ensures.accepted

pub returns-in-Err : goal.returns-in-Err
returns-in-Err g c =
    let made = c.args.made.now in
    let at = slice_get_read made _ c.args.op c.index-made-op.result refl c.if-op-made.false c.index-made-op.is in
    delivery_refused c.args.desks.now made c.args.desk c.args.op c.index-made-op.result c.take_at.new.desks c.if-desk-desks.false c.if-op-made.false at c.take_at.ensures.sites c.taking_refused.result c.in-Err.fault
    c.taking_refused.ensures.reply c.in-Err.ensures.fault c.in-Err.ensures.err
