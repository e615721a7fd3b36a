-- The goals of `place_new` that are answered by hand.
use Rattle.std.proofs.Common.{ap, ◌∙◌, arith}
use Rattle.std.specs.FinMap as map
use Rattle.desk_replica.specs.Placement.{whole}
use Rattle.desk_replica.specs.Telling.{changes_of, is_shown}
use Rattle.desk_replica.proofs.Tellings.{tells_more, tells_whole, part_with, stays_shown}
use Rattle.desk_replica.proofs.Hearing.{room_one, room_released}
use Rattle.desk_replica.proofs.FirstTurn.{first_turn}
use Rattle.desk_replica.proofs.Admitting.{placed_answer, length-elements}
use Rattle.desk_replica.proofs.placing.place_new.Goals as goal

pub place_ready-requires-clause-parted : goal.place_ready-requires-clause-parted
place_ready-requires-clause-parted g c =
    (first_turn (g.S.Sequence.content c.args.seq.now) c.args.held.now c.args.op.now (g.S.Sequence.content c.place_one.new.seq) c.place_one.new.held c.requires.settled c.requires.admitted c.requires.may c.place_one.ensures.places).parted

pub place_ready-requires-clause-formed : goal.place_ready-requires-clause-formed
place_ready-requires-clause-formed g c =
    (first_turn (g.S.Sequence.content c.args.seq.now) c.args.held.now c.args.op.now (g.S.Sequence.content c.place_one.new.seq) c.place_one.new.held c.requires.settled c.requires.admitted c.requires.may c.place_one.ensures.places).formed

pub place_ready-requires-clause-room : goal.place_ready-requires-clause-room
place_ready-requires-clause-room g c =
    let f = first_turn (g.S.Sequence.content c.args.seq.now) c.args.held.now c.args.op.now (g.S.Sequence.content c.place_one.new.seq) c.place_one.new.held c.requires.settled c.requires.admitted c.requires.may c.place_one.ensures.places in
    omega (arith, ap map.len f.insertions, c.place_one.ensures.room, c.requires.room)

pub returns-clause-whole : goal.returns-clause-whole
returns-clause-whole g c =
    c.place_ready.ensures.same
    ∙ (first_turn (g.S.Sequence.content c.args.seq.now) c.args.held.now c.args.op.now (g.S.Sequence.content c.place_one.new.seq) c.place_one.new.held c.requires.settled c.requires.admitted c.requires.may c.place_one.ensures.places).same

pub returns-clause-paid : goal.returns-clause-paid
returns-clause-paid g c = λ n p.
    let f = first_turn (g.S.Sequence.content c.args.seq.now) c.args.held.now c.args.op.now (g.S.Sequence.content c.place_one.new.seq) c.place_one.new.held c.requires.settled c.requires.admitted c.requires.may c.place_one.ensures.places in
    c.place_ready.ensures.paid n (record { placed = omega (arith, p.placed, ap map.len f.insertions, c.place_one.ensures.room); held = omega (arith, p.held, f.room) })

pub returns-clause-answer : goal.returns-clause-answer
returns-clause-answer g c =
    let t = g.S.Sequence.content c.args.seq.now in
    let first = (first_turn (g.S.Sequence.content c.args.seq.now) c.args.held.now c.args.op.now (g.S.Sequence.content c.place_one.new.seq) c.place_one.new.held c.requires.settled c.requires.admitted c.requires.may c.place_one.ensures.places).same in
    let more = c.place_one.ensures.grows in
    let grown = c.place_ready.ensures.grows in
    let b = c.placed-before.ensures in
    let l0 = length-elements t in
    let l1 = length-elements (g.S.Sequence.content c.place_ready.new.seq) in
    placed_answer t c.args.held.now c.args.op.now (g.S.Sequence.content c.place_ready.new.seq) c.place_ready.new.held c.placed-before.result c.placed.result
    (record { well = g.met.S.Sequence.well_formed c.args.seq.now; tree = g.met.S.Sequence.is_tree c.args.seq.now; only = g.met.S.Sequence.only_placed c.args.seq.now })
    c.requires.settled c.requires.admitted c.requires.may
    (record { well = g.met.S.Sequence.well_formed c.place_ready.new.seq; tree = g.met.S.Sequence.is_tree c.place_ready.new.seq; only = g.met.S.Sequence.only_placed c.place_ready.new.seq })
    c.place_ready.ensures.settled (c.place_ready.ensures.same ∙ first) b c.placed.ensures (omega (arith, c.placed.ensures))

pub place_one-requires-clause-told_room : goal.place_one-requires-clause-told_room
place_one-requires-clause-told_room g c = room_one (g.L.Listener.told c.args.listener.now) (g.L.Listener.capacity c.args.listener.now) c.args.held.now.held c.args.op.now c.requires.told_room

pub place_ready-requires-clause-told_room : goal.place_ready-requires-clause-told_room
place_ready-requires-clause-told_room g c =
    let t = g.S.Sequence.content c.args.seq.now in
    let u = g.S.Sequence.content c.place_one.new.seq in
    let told = c.place_one.ensures.told in
    room_released (g.L.Listener.told c.args.listener.now) (g.L.Listener.told c.place_one.new.listener) (changes_of u (is_shown t) told.steps) (g.L.Listener.capacity c.args.listener.now) (g.L.Listener.capacity c.place_one.new.listener)
    t c.args.held.now c.args.op.now u c.place_one.new.held c.requires.settled c.place_one.ensures.places told.appended c.place_one.ensures.few c.place_one.ensures.capacity c.requires.told_room

pub returns-clause-told : goal.returns-clause-told
returns-clause-told g c =
    let t = g.S.Sequence.content c.args.seq.now in
    let v = g.S.Sequence.content c.place_one.new.seq in
    let u = g.S.Sequence.content c.place_ready.new.seq in
    let a = g.L.Listener.told c.args.listener.now in
    let b = g.L.Listener.told c.place_ready.new.listener in
    let first = (first_turn t c.args.held.now c.args.op.now v c.place_one.new.held c.requires.settled c.requires.admitted c.requires.may c.place_one.ensures.places).same in
    tells_whole t u c.args.held.now c.place_ready.new.held a b (record { well = g.met.S.Sequence.well_formed c.args.seq.now; tree = g.met.S.Sequence.is_tree c.args.seq.now; only = g.met.S.Sequence.only_placed c.args.seq.now }) c.requires.settled
    (record { well = g.met.S.Sequence.well_formed c.place_ready.new.seq; tree = g.met.S.Sequence.is_tree c.place_ready.new.seq; only = g.met.S.Sequence.only_placed c.place_ready.new.seq }) c.place_ready.ensures.settled
    (part_with (whole t c.args.held.now) (whole u c.place_ready.new.held) c.args.op.now c.requires.admitted.joins (c.place_ready.ensures.same ∙ first))
    (tells_more t v u a (g.L.Listener.told c.place_one.new.listener) b c.place_one.ensures.told c.place_ready.ensures.told (stays_shown t v u c.place_ready.ensures.shows))

pub returns-clause-capacity : goal.returns-clause-capacity
returns-clause-capacity g c = omega (arith, c.place_one.ensures.capacity, c.place_ready.ensures.capacity)

pub returns-clause-few : goal.returns-clause-few
returns-clause-few g c =
    let l0 = length-elements (g.S.Sequence.content c.args.seq.now) in
    let l1 = length-elements (g.S.Sequence.content c.place_ready.new.seq) in
    omega (arith, c.place_one.ensures.few, c.place_one.ensures.grows, c.place_ready.ensures.few, c.place_ready.ensures.grows, c.placed-before.ensures, c.placed.ensures, l0, l1)
