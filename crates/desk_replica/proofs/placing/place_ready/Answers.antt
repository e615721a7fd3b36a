-- The goals of `place_ready` that are answered by hand.
use Rattle.std.proofs.Common.{◌++◌, [], ◌∷◌, length, sym, subst, ◌∙◌, arith, refl, length-append}
use Rattle.pending_ops.proofs.Interface.{PlacesEach-push, one_more_below}
use Rattle.desk_replica.specs.Placement.{IsPaid}
use Rattle.desk_replica.specs.Listening.{HasRoom}
use Rattle.desk_replica.specs.Telling.{changes_of, is_shown}
use Rattle.desk_replica.proofs.Tellings.{tells_nothing, tells_more, stays_shown}
use Rattle.desk_replica.proofs.Hearing.{room_left}
use Rattle.desk_replica.proofs.Loop.{turn, may_place, some_held, places_one}
use Rattle.desk_replica.proofs.placing.place_ready.Goals as goal

pub loop-op-init : goal.loop-op-init
loop-op-init g c = record {
  parted = c.requires.parted;
  formed = c.requires.formed;
  same = refl;
  grows = omega arith;
  room = c.requires.room;
  paid = λ n p. p;
  placed = ([], refl, omega arith);
  shows = λ id h. h;
  capacity = omega arith;
  told = (let t = g.S.Sequence.content c.args.seq.now in let a = g.L.Listener.told c.args.listener.now in tells_nothing t t a a (g.met.S.Sequence.well_formed c.args.seq.now) refl refl);
  few = omega arith;
}

pub place_one-requires-clause-may : goal.place_one-requires-clause-may
place_one-requires-clause-may g c = may_place (g.S.Sequence.content c.loop-op.seq) c.loop-op.held c.next_ready.new.self c.in-Some.op c.loop-op.invariant.parted c.in-Some.ensures.some

pub place_one-requires-clause-room : goal.place_one-requires-clause-room
place_one-requires-clause-room g c =
    let p = some_held c.loop-op.held c.next_ready.new.self c.in-Some.op c.in-Some.ensures.some in
    omega (arith, p, c.loop-op.invariant.room)

pub place_one-requires-clause-told_room : goal.place_one-requires-clause-told_room
place_one-requires-clause-told_room g c =
    let room = c.requires.told_room in
    let placed = c.loop-op.invariant.placed in
    let ops = placed.0 in
    let told = c.loop-op.invariant.told in
    let more = one_more_below room.before c.args.held.now c.loop-op.held c.next_ready.new.self room.id ops c.in-Some.op room.none_ready room.releases placed.1 c.in-Some.ensures.some in
    let all = room.room more.0 more.1.0 in
    let grown = placed.2 in
    let few = c.loop-op.invariant.few in
    room_left (g.L.Listener.told c.args.listener.now) (g.L.Listener.told c.loop-op.listener) (changes_of (g.S.Sequence.content c.loop-op.seq) (is_shown (g.S.Sequence.content c.args.seq.now)) told.steps)
    (g.L.Listener.capacity c.args.listener.now) (g.L.Listener.capacity c.loop-op.listener) (length ops) 1 told.appended (omega (arith, few, grown)) c.loop-op.invariant.capacity
    (subst (HasRoom (g.L.Listener.told c.args.listener.now) (g.L.Listener.capacity c.args.listener.now)) more.1.1 all)

pub loop-op-smaller : goal.loop-op-smaller
loop-op-smaller g c = omega (arith, c.place_one.ensures.room)

pub loop-op-preserved : goal.loop-op-preserved
loop-op-preserved g c =
    let t = g.S.Sequence.content c.loop-op.seq in
    let u = g.S.Sequence.content c.place_one.new.seq in
    let a = turn t c.loop-op.held c.next_ready.new.self c.in-Some.op u c.place_one.new.held c.loop-op.invariant.parted c.in-Some.ensures.some c.place_one.ensures.places in
    record {
      parted = a.parted;
      formed = a.formed c.loop-op.invariant.formed;
      same = a.same ∙ c.loop-op.invariant.same;
      grows = omega (arith, c.place_one.ensures.grows, c.loop-op.invariant.grows);
      room = omega (arith, c.loop-op.invariant.room, c.place_one.ensures.room, a.fewer);
      paid = λ n p.
          let q = c.loop-op.invariant.paid n p in
          record { placed = omega (arith, q.placed, c.place_one.ensures.room, a.fewer); held = omega (arith, q.held, a.room) };
      placed = (let p = c.loop-op.invariant.placed in (
        p.0 ++ c.in-Some.op ∷ [],
        PlacesEach-push c.args.held.now p.0 c.loop-op.held c.place_one.new.held c.in-Some.op p.1 (places_one t c.loop-op.held c.next_ready.new.self c.in-Some.op u c.place_one.new.held c.in-Some.ensures.some c.place_one.ensures.places),
        (let l = length-append p.0 (c.in-Some.op ∷ []) in let q = p.2 in omega (arith, l, q, c.place_one.ensures.grows)),
      ));
      shows = λ id h. c.place_one.ensures.shows id (c.loop-op.invariant.shows id h);
      capacity = omega (arith, c.loop-op.invariant.capacity, c.place_one.ensures.capacity);
      told = tells_more (g.S.Sequence.content c.args.seq.now) t u (g.L.Listener.told c.args.listener.now) (g.L.Listener.told c.loop-op.listener) (g.L.Listener.told c.place_one.new.listener) c.loop-op.invariant.told c.place_one.ensures.told
          (stays_shown (g.S.Sequence.content c.args.seq.now) t u c.place_one.ensures.shows);
      few = omega (arith, c.place_one.ensures.few, c.place_one.ensures.grows, c.loop-op.invariant.few);
    }

pub returns-clause-paid : goal.returns-clause-paid
returns-clause-paid g c = λ n p. subst (λ w. IsPaid (g.S.Sequence.free c.loop-op.seq) w n) (sym c.in_default.ensures.unchanged) (c.loop-op.invariant.paid n p)
