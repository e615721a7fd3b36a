-- The goals of `erase` that are answered by hand.
use Rattle.std.proofs.Common.{ap, length, arith, rules}
use Rattle.std.proofs.lemmas.List.{get_or_default}
use Rattle.rga_tree.specs.TextOf.{visible}
use Rattle.desk_replica.specs.Desk.{Desk, fresh}
use Rattle.desk_replica.proofs.Replies.{none_erased, erased_replied}
use Rattle.desk_replica.proofs.world.steps.erase.Goals as goal
use Rattle.desk_replica.proofs.world.steps.erase.Goals.{then-desk-desks-via-then-desk-desks, then-desk-desks-via-else-desk-desks+then-place-len}

pub returns-then-desk-desks : goal.returns-then-desk-desks
returns-then-desk-desks g c =
    elim c.then-desk-desks.branch [
      | then-desk-desks-via-then-desk-desks w ↦ none_erased c.args.desks.now c.args.made.now.items c.args.desk c.args.place (fresh 0) (λ within at. omega (arith, within, w.if-desk-desks.true))
      | then-desk-desks-via-else-desk-desks+then-place-len w ↦
          none_erased c.args.desks.now c.args.made.now.items c.args.desk c.args.place w.index-desks-desk.result (λ within at. omega (arith, at, w.if-place-len.true, w.len.ensures))
    ]

pub erase_at-requires : goal.erase_at-requires
erase_at-requires g c =
    let above = c.if-place-len.false in
    let long = c.len.ensures in
    let same = ap (λ (d : Desk). length (visible d.set)) (get_or_default c.args.desks.now c.args.desk c.index-desks-desk.result c.index-desks-desk-2.result c.if-desk-desks.false) in
    omega (arith, above, long, same)

pub returns : goal.returns
returns g c =
    let own = c.index-desks-desk-2.result in
    let above = c.if-place-len.false in
    let long = c.len.ensures in
    let same = ap (λ (d : Desk). length (visible d.set)) (get_or_default c.args.desks.now c.args.desk c.index-desks-desk.result own c.if-desk-desks.false) in
    let made = c.erase_at.ensures in
    erased_replied c.args.desks.now c.args.made.now.items c.args.desk own c.erase_at.new.self c.if-desk-desks.false made.site c.args.place c.typing_reply.new.made.items c.typing_reply.result c.erase_at.result (omega (arith, above, long, same))
    c.typing_reply.ensures made.op made.accepted made.fault made.err

pub bounds-desks-desk : goal.bounds-desks-desk
bounds-desks-desk g c = c.if-desk-desks.false

pub bounds-desks-desk-2 : goal.bounds-desks-desk-2
bounds-desks-desk-2 g c = c.if-desk-desks.false

pub offset_bounds-desks-desk : goal.offset_bounds-desks-desk
offset_bounds-desks-desk g c =
    let within = c.if-desk-desks.false in
    search rules

pub offset_bounds-desks-desk-2 : goal.offset_bounds-desks-desk-2
offset_bounds-desks-desk-2 g c =
    let within = c.if-desk-desks.false in
    search rules
