-- The goals of `meet_another` that are answered by hand.
use Rattle.std.proofs.Common.{◌<◌, length, sym, arith, rules}
use Rattle.desk_replica.proofs.DeskLists.{met_behind, met_before}
use Rattle.desk_replica.proofs.taking.meet_another.Goals as goal

pub returns-then-desk-from : goal.returns-then-desk-from
returns-then-desk-from g c =
    let long = c.split_at_mut-front.ensures.front_len in
    let rest = c.split_at_mut-front.ensures.back_len in
    met_behind c.split_at_mut-front.result.0.now c.split_at_mut-front.result.1.now c.args.desks.now (sym c.split_at_mut-front.ensures.value) c.meet.new.desk c.meet.result (omega arith)
    c.args.desk c.args.from c.index-front-desk.result c.index-back-0.result long (omega arith) c.meet.ensures

pub returns : goal.returns
returns g c =
    let long = c.split_at_mut-front-2.ensures.front_len in
    let rest = c.split_at_mut-front-2.ensures.back_len in
    let apart = c.requires.apart in
    let above = c.if-desk-from.false in
    met_before c.split_at_mut-front-2.result.0.now c.split_at_mut-front-2.result.1.now c.args.desks.now (sym c.split_at_mut-front-2.ensures.value) c.meet-2.new.desk c.meet-2.result (omega arith)
    c.args.desk c.args.from c.index-back-0-2.result c.index-front-from.result long (omega arith) c.meet-2.ensures

pub bounds-front-desk : goal.bounds-front-desk
bounds-front-desk g c =
    let long = c.split_at_mut-front.ensures.front_len in
    omega arith

pub bounds-back-0 : goal.bounds-back-0
bounds-back-0 g c =
    let rest = c.split_at_mut-front.ensures.back_len in
    omega arith

pub bounds-back-0-2 : goal.bounds-back-0-2
bounds-back-0-2 g c =
    let rest = c.split_at_mut-front-2.ensures.back_len in
    omega arith

pub bounds-front-from : goal.bounds-front-from
bounds-front-from g c =
    let long = c.split_at_mut-front-2.ensures.front_len in
    omega arith

pub split_at_mut-front-requires : goal.split_at_mut-front-requires
split_at_mut-front-requires g c = omega (arith, c.requires.from)

pub split_at_mut-front-requires-2 : goal.split_at_mut-front-requires-2
split_at_mut-front-requires-2 g c = omega (arith, c.requires.desk)

pub offset_bounds-front-desk : goal.offset_bounds-front-desk
offset_bounds-front-desk g c =
    let long = c.split_at_mut-front.ensures.front_len in
    let within : c.args.desk < length c.split_at_mut-front.result.0.now = omega arith in
    search rules

pub offset_bounds-front-from : goal.offset_bounds-front-from
offset_bounds-front-from g c =
    let long = c.split_at_mut-front-2.ensures.front_len in
    let within : c.args.from < length c.split_at_mut-front-2.result.0.now = omega arith in
    search rules
