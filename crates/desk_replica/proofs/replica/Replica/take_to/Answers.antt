-- The goals of `take_to` that are answered by hand.
use Rattle.std.proofs.Common.{◌≡◌, ◌<◌, ◌+◌, refl, sym, ap, subst, ◌∙◌, arith}
use Rattle.std.specs.Prelude.{max}
use Rattle.bg_types.specs.OperationSet.{Holds, ReusesIdentifier, size, with_operation}
use Rattle.bg_types.proofs.Interface.{with_operation-known, size-with_operation}
use Rattle.pending_ops.specs.Waiting.{Waiting}
use Rattle.pending_ops.specs.Releasing.{subject}
use Rattle.desk_replica.specs.Desk.{Desk}
use Rattle.desk_replica.specs.Placement.{IsCounted, IsDesk, whole}
use Rattle.desk_replica.specs.Reply.{IsAdmitted, IsHiding, IsRefusal, IsTaken}
use Rattle.desk_replica.specs.declared.answer.TakeFault.{TakeFault}
use Rattle.desk_replica.specs.declared.answer.TakeFault.TheVariants.{Full}
use Rattle.desk_replica.specs.Listening.{HasRoom, HasRoomFor, IsHeard}
use Rattle.desk_replica.specs.Telling.{IsUntaken, ShowsAll, seen_count, waiting_count}
use Rattle.desk_replica.proofs.Tellings.{part_with, shows_same}
use Rattle.desk_replica.proofs.Hearing.{heard_nothing, none_or_short, room_waiting, room_whole, seen_taken, shows_inserted}
use Rattle.desk_replica.proofs.Settled.{whole_formed}
use Rattle.rga_tree.proofs.Interface.{AllWellFormed-with}
use Rattle.desk_replica.proofs.Admitting.{whole_as}
use Rattle.desk_replica.proofs.Desks.{IsDesk-more, desk_limited, desk_same, well_formed_desk}
use Rattle.desk_replica.proofs.Refusals.{known_accepted, admitted_accepted}
use Rattle.desk_replica.proofs.replica.Replica.take_to.Goals as goal

pub returns-in-Known-clause-answer : goal.returns-in-Known-clause-answer
returns-in-Known-clause-answer g c = subst (λ (d : Desk). Holds d.set c.args.op.now) c.self.view_is c.in-Known.ensures

pub returns-in-Known-clause-accepted : goal.returns-in-Known-clause-accepted
returns-in-Known-clause-accepted g c = known_accepted c.args.self.now.set c.args.op.now (subst (λ (d : Desk). Holds d.set c.args.op.now) c.self.view_is c.in-Known.ensures)

pub returns-in-Known-clause-limited : goal.returns-in-Known-clause-limited
returns-in-Known-clause-limited g c =
    desk_limited (g.S.Sequence.content c.self.inside.seq) c.self.inside.held c.self.inside.site c.self.inside.spare c.self.inside.kept c.self.inside.greatest c.args.self.now c.self.invariant.counted c.self.view_is

pub returns-in-Reused-clause-answer : goal.returns-in-Reused-clause-answer
returns-in-Reused-clause-answer g c = subst (λ (d : Desk). ReusesIdentifier d.set c.args.op.now) c.self.view_is c.in-Reused.ensures

pub returns-in-Reused-clause-limited : goal.returns-in-Reused-clause-limited
returns-in-Reused-clause-limited g c =
    desk_limited (g.S.Sequence.content c.self.inside.seq) c.self.inside.held c.self.inside.site c.self.inside.spare c.self.inside.kept c.self.inside.greatest c.args.self.now c.self.invariant.counted c.self.view_is

pub returns-then-self-ge-MOST_OPERATIONS-clause-limited : goal.returns-then-self-ge-MOST_OPERATIONS-clause-limited
returns-then-self-ge-MOST_OPERATIONS-clause-limited g c =
    desk_limited (g.S.Sequence.content c.self.inside.seq) c.self.inside.held c.self.inside.site c.self.inside.spare c.self.inside.kept c.self.inside.greatest c.args.self.now c.self.invariant.counted c.self.view_is

pub returns-in-Known-clause-ok : goal.returns-in-Known-clause-ok
returns-in-Known-clause-ok g c =
    let h : Holds c.args.self.now.set c.args.op.now = subst (λ (d : Desk). Holds d.set c.args.op.now) c.self.view_is c.in-Known.ensures in
    sym (with_operation-known c.args.self.now.set c.args.op.now h)

pub returns-then-self-ge-MOST_OPERATIONS-clause-answer : goal.returns-then-self-ge-MOST_OPERATIONS-clause-answer
returns-then-self-ge-MOST_OPERATIONS-clause-answer g c =
    let kept = c.self.invariant.counted.kept_is in
    let limited = c.self.invariant.counted.limited in
    let full = c.if-self-ge-MOST_OPERATIONS.true in
    subst (λ (d : Desk). IsUntaken d.set c.args.op.now Full) c.self.view_is (c.in-New.ensures.0, c.in-New.ensures.1, omega (arith, kept, limited, full))

pub invariant_of-self : goal.invariant_of-self
invariant_of-self g c =
    let t = g.S.Sequence.content c.self.inside.seq in
    let w = c.self.inside.held in
    let op = c.args.op.now in
    let full = c.if-self-ge-MOST_OPERATIONS.false in
    let k = c.self.invariant.counted.kept_is in
    let room : c.self.inside.kept < 1_000_000 = omega arith in
    let a : IsAdmitted (whole t w) op = record { joins = c.in-New.ensures.0; is_new = c.in-New.ensures.1; room = omega arith } in
    let m : c.max-self-inside.result ≡ max c.self.inside.greatest (subject op).counter = let ct = c.counter_of.ensures.counter in let mx = c.max-self-inside.ensures in omega (arith, ct, mx) in
    subst (λ n. IsDesk (g.S.Sequence.content c.admit.new.seq) (g.S.Sequence.free c.admit.new.seq) c.admit.new.held c.self.inside.site (c.self.inside.kept + 1) n c.admit.new.spare) (sym m)
    (IsDesk-more t (g.S.Sequence.content c.admit.new.seq) (g.S.Sequence.free c.self.inside.seq) (g.S.Sequence.free c.admit.new.seq) w c.admit.new.held c.self.inside.site c.self.inside.kept c.self.inside.greatest c.self.inside.spare c.admit.new.spare op c.self.invariant a c.counter_of.ensures.well_formed room c.in-Ok.ensures.settled c.in-Ok.ensures.ok c.in-Ok.ensures.paid)

pub returns-in-Ok-clause-limited : goal.returns-in-Ok-clause-limited
returns-in-Ok-clause-limited g c =
    let before = whole (g.S.Sequence.content c.self.inside.seq) c.self.inside.held in
    let grown = size-with_operation before c.args.op.now c.in-New.ensures.0 c.in-New.ensures.1 in
    let new = ap size c.in-Ok.ensures.ok in
    let kept = c.self.invariant.counted.kept_is in
    let room = c.if-self-ge-MOST_OPERATIONS.false in
    omega (arith, grown, new, kept, room)

pub returns-in-Ok-clause-spare : goal.returns-in-Ok-clause-spare
returns-in-Ok-clause-spare g c =
    let before = whole (g.S.Sequence.content c.self.inside.seq) c.self.inside.held in
    let grown = size-with_operation before c.args.op.now c.in-New.ensures.0 c.in-New.ensures.1 in
    let new = ap size c.in-Ok.ensures.ok in
    let set = ap (λ (d : Desk). size d.set) c.self.view_is in
    let spare = ap (λ (d : Desk). d.spare) c.self.view_is in
    omega (arith, grown, new, set, spare, c.in-Ok.ensures.spare)

pub admit-requires-clause-admitted : goal.admit-requires-clause-admitted
admit-requires-clause-admitted g c =
    let kept = c.self.invariant.counted.kept_is in
    let room = c.if-self-ge-MOST_OPERATIONS.false in
    record { joins = c.in-New.ensures.0; is_new = c.in-New.ensures.1; room = omega (arith, kept, room) }

pub returns-in-Ok-clause-answer : goal.returns-in-Ok-clause-answer
returns-in-Ok-clause-answer g c = subst (λ (d : Desk). IsTaken d.set c.args.op.now c.in-Ok.taken) c.self.view_is c.in-Ok.ensures.answer

pub returns-in-Ok-clause-accepted : goal.returns-in-Ok-clause-accepted
returns-in-Ok-clause-accepted g c =
    let kept = c.self.invariant.counted.kept_is in
    let room = c.if-self-ge-MOST_OPERATIONS.false in
    let before = whole (g.S.Sequence.content c.self.inside.seq) c.self.inside.held in
    subst (λ (d : Desk). (fault : TakeFault) → ¬ (IsRefusal d.set c.args.op.now fault)) c.self.view_is
    (admitted_accepted before c.args.op.now (record { joins = c.in-New.ensures.0; is_new = c.in-New.ensures.1; room = omega (arith, kept, room) }))

pub returns-in-Ok-clause-ok : goal.returns-in-Ok-clause-ok
returns-in-Ok-clause-ok g c = c.in-Ok.ensures.ok ∙ ap (λ (d : Desk). with_operation d.set c.args.op.now) c.self.view_is

pub invariant_of-self-in-Err : goal.invariant_of-self-in-Err
invariant_of-self-in-Err g c =
    let same = whole_as (g.S.Sequence.content c.self.inside.seq) (g.S.Sequence.content c.admit.new.seq) c.self.inside.held c.admit.new.held c.in-Err.ensures.content (ap (λ (w : Waiting). w.held) c.in-Err.ensures.held) in
    record {
      settled = c.in-Err.ensures.settled;
      counted = subst (λ s. IsCounted s c.self.inside.kept c.self.inside.greatest) (sym same) c.self.invariant.counted;
      sited = c.self.invariant.sited;
      paid = c.in-Err.ensures.paid;
    }

pub returns-in-Err-clause-answer : goal.returns-in-Err-clause-answer
returns-in-Err-clause-answer g c =
    let kept = c.self.invariant.counted.kept_is in
    let room = c.if-self-ge-MOST_OPERATIONS.false in
    subst (λ (d : Desk). IsAdmitted d.set c.args.op.now) c.self.view_is (record { joins = c.in-New.ensures.0; is_new = c.in-New.ensures.1; room = omega (arith, kept, room) })

pub returns-in-Err-clause-err : goal.returns-in-Err-clause-err
returns-in-Err-clause-err g c =
    desk_same (g.S.Sequence.content c.self.inside.seq) (g.S.Sequence.content c.admit.new.seq) c.self.inside.held c.admit.new.held c.self.inside.site c.self.inside.spare c.admit.new.spare c.args.self.now
    c.in-Err.ensures.content c.in-Err.ensures.held c.in-Err.ensures.same c.self.view_is

pub returns-in-Err-clause-limited : goal.returns-in-Err-clause-limited
returns-in-Err-clause-limited g c =
    let same = whole_as (g.S.Sequence.content c.self.inside.seq) (g.S.Sequence.content c.admit.new.seq) c.self.inside.held c.admit.new.held c.in-Err.ensures.content (ap (λ (w : Waiting). w.held) c.in-Err.ensures.held) in
    omega (arith, ap size same, c.self.invariant.counted.kept_is, c.self.invariant.counted.limited)

pub returns-in-Err-clause-spare : goal.returns-in-Err-clause-spare
returns-in-Err-clause-spare g c =
    let same = desk_same (g.S.Sequence.content c.self.inside.seq) (g.S.Sequence.content c.admit.new.seq) c.self.inside.held c.admit.new.held c.self.inside.site c.self.inside.spare c.admit.new.spare c.args.self.now
    c.in-Err.ensures.content c.in-Err.ensures.held c.in-Err.ensures.same c.self.view_is in
    omega (arith, ap (λ (d : Desk). size d.set) same, ap (λ (d : Desk). d.spare) same)

pub returns-in-Err-clause-unpaid : goal.returns-in-Err-clause-unpaid
returns-in-Err-clause-unpaid g c = λ memory room.
    let t = g.S.Sequence.content c.self.inside.seq in
    let w = c.self.inside.held in
    let told = g.L.Listener.told c.args.listener.now in
    let capacity = g.L.Listener.capacity c.args.listener.now in
    let whole_room = subst (λ (d : Desk). HasRoomFor told capacity d.set c.args.op.now) (sym c.self.view_is) room in
    let h = c.in-Err.ensures.unpaid (room_whole told capacity t w c.self.invariant.settled c.args.op.now whole_room) in
    (sym (ap (λ (d : Desk). d.spare) c.self.view_is) ∙ h.0, subst (λ (d : Desk). ¬ (IsHiding d.set c.args.op.now)) c.self.view_is h.1)

pub returns-in-Err-clause-short : goal.returns-in-Err-clause-short
returns-in-Err-clause-short g c = λ memory.
    let t = g.S.Sequence.content c.self.inside.seq in
    let w = c.self.inside.held in
    let told = g.L.Listener.told c.args.listener.now in
    let capacity = g.L.Listener.capacity c.args.listener.now in
    none_or_short c.args.self.now.spare (HasRoom told capacity (waiting_count c.args.self.now.set + 1)) (λ room.
    let waiting_room = subst (λ (d : Desk). HasRoom told capacity (waiting_count d.set + 1)) (sym c.self.view_is) room in
    sym (ap (λ (d : Desk). d.spare) c.self.view_is)
    ∙ (c.in-Err.ensures.unpaid (room_waiting told capacity t w c.self.invariant.settled (record { well = g.met.S.Sequence.well_formed c.self.inside.seq; tree = g.met.S.Sequence.is_tree c.self.inside.seq; only = g.met.S.Sequence.only_placed c.self.inside.seq }) c.args.op.now waiting_room)).0)

-- ---- what is told

pub returns-in-Known-clause-heard : goal.returns-in-Known-clause-heard
returns-in-Known-clause-heard g c =
    let s = c.args.self.now.set in
    let told = g.L.Listener.told c.args.listener.now in
    let capacity = g.L.Listener.capacity c.args.listener.now in
    heard_nothing s s told told capacity capacity
    (well_formed_desk (g.S.Sequence.content c.self.inside.seq) c.self.inside.held c.self.inside.site c.self.inside.spare c.args.self.now (record { well = g.met.S.Sequence.well_formed c.self.inside.seq; tree = g.met.S.Sequence.is_tree c.self.inside.seq; only = g.met.S.Sequence.only_placed c.self.inside.seq }) c.self.invariant.settled c.self.view_is)
    refl refl (omega arith)

pub returns-in-Reused-clause-heard : goal.returns-in-Reused-clause-heard
returns-in-Reused-clause-heard g c =
    let s = c.args.self.now.set in
    let told = g.L.Listener.told c.args.listener.now in
    let capacity = g.L.Listener.capacity c.args.listener.now in
    heard_nothing s s told told capacity capacity
    (well_formed_desk (g.S.Sequence.content c.self.inside.seq) c.self.inside.held c.self.inside.site c.self.inside.spare c.args.self.now (record { well = g.met.S.Sequence.well_formed c.self.inside.seq; tree = g.met.S.Sequence.is_tree c.self.inside.seq; only = g.met.S.Sequence.only_placed c.self.inside.seq }) c.self.invariant.settled c.self.view_is)
    refl refl (omega arith)

pub returns-then-self-ge-MOST_OPERATIONS-clause-heard : goal.returns-then-self-ge-MOST_OPERATIONS-clause-heard
returns-then-self-ge-MOST_OPERATIONS-clause-heard g c =
    let s = c.args.self.now.set in
    let told = g.L.Listener.told c.args.listener.now in
    let capacity = g.L.Listener.capacity c.args.listener.now in
    heard_nothing s s told told capacity capacity
    (well_formed_desk (g.S.Sequence.content c.self.inside.seq) c.self.inside.held c.self.inside.site c.self.inside.spare c.args.self.now (record { well = g.met.S.Sequence.well_formed c.self.inside.seq; tree = g.met.S.Sequence.is_tree c.self.inside.seq; only = g.met.S.Sequence.only_placed c.self.inside.seq }) c.self.invariant.settled c.self.view_is)
    refl refl (omega arith)

pub returns-in-Ok-clause-heard : goal.returns-in-Ok-clause-heard
returns-in-Ok-clause-heard g c =
    let t = g.S.Sequence.content c.self.inside.seq in
    let w = c.self.inside.held in
    let s = whole t w in
    let after = whole (g.S.Sequence.content c.admit.new.seq) c.admit.new.held in
    let op = c.args.op.now in
    let settled = c.self.invariant.settled in
    let formed = whole_formed t w.held (g.met.S.Sequence.well_formed c.self.inside.seq) settled.well_formed (g.met.S.Sequence.is_tree c.self.inside.seq) (g.met.S.Sequence.only_placed c.self.inside.seq) settled.parted in
    let seen = seen_taken s op c.in-Ok.taken (AllWellFormed-with s op formed c.counter_of.ensures.well_formed) (part_with s (with_operation s op) op c.in-New.ensures.0 refl) c.in-Ok.ensures.answer in
    let new = ap seen_count c.in-Ok.ensures.ok in
    subst (λ (d : Desk). IsHeard d.set after (g.L.Listener.told c.args.listener.now) (g.L.Listener.told c.admit.new.listener) (g.L.Listener.capacity c.args.listener.now) (g.L.Listener.capacity c.admit.new.listener)) c.self.view_is
    (record { tells = c.admit.ensures.told; few = omega (arith, seen, c.in-Ok.ensures.few, new); capacity = c.admit.ensures.capacity })

pub returns-in-Err-clause-heard : goal.returns-in-Err-clause-heard
returns-in-Err-clause-heard g c =
    let s = c.args.self.now.set in
    let after = whole (g.S.Sequence.content c.admit.new.seq) c.admit.new.held in
    let same = desk_same (g.S.Sequence.content c.self.inside.seq) (g.S.Sequence.content c.admit.new.seq) c.self.inside.held c.admit.new.held c.self.inside.site c.self.inside.spare c.admit.new.spare c.args.self.now
    c.in-Err.ensures.content c.in-Err.ensures.held c.in-Err.ensures.same c.self.view_is in
    heard_nothing s after (g.L.Listener.told c.args.listener.now) (g.L.Listener.told c.admit.new.listener) (g.L.Listener.capacity c.args.listener.now) (g.L.Listener.capacity c.admit.new.listener)
    (well_formed_desk (g.S.Sequence.content c.self.inside.seq) c.self.inside.held c.self.inside.site c.self.inside.spare c.args.self.now (record { well = g.met.S.Sequence.well_formed c.self.inside.seq; tree = g.met.S.Sequence.is_tree c.self.inside.seq; only = g.met.S.Sequence.only_placed c.self.inside.seq }) c.self.invariant.settled c.self.view_is)
    (ap (λ (d : Desk). d.set) same) c.in-Err.ensures.untold c.admit.ensures.capacity

-- ---- what stays shown

pub returns-in-Known-clause-shows : goal.returns-in-Known-clause-shows
returns-in-Known-clause-shows g c = λ no id h. h

pub returns-in-Reused-clause-shows : goal.returns-in-Reused-clause-shows
returns-in-Reused-clause-shows g c = λ no id h. h

pub returns-then-self-ge-MOST_OPERATIONS-clause-shows : goal.returns-then-self-ge-MOST_OPERATIONS-clause-shows
returns-then-self-ge-MOST_OPERATIONS-clause-shows g c = λ no id h. h

pub returns-in-Ok-clause-shows : goal.returns-in-Ok-clause-shows
returns-in-Ok-clause-shows g c = λ no.
    let t = g.S.Sequence.content c.self.inside.seq in
    let w = c.self.inside.held in
    let s = whole t w in
    let after = whole (g.S.Sequence.content c.admit.new.seq) c.admit.new.held in
    subst (λ (d : Desk). ShowsAll d.set after) c.self.view_is (shows_inserted s after c.args.op.now c.admit.ensures.told.are_steps.well_formed c.in-New.ensures.0 no c.in-Ok.ensures.ok)

pub returns-in-Err-clause-shows : goal.returns-in-Err-clause-shows
returns-in-Err-clause-shows g c = λ no.
    let same = desk_same (g.S.Sequence.content c.self.inside.seq) (g.S.Sequence.content c.admit.new.seq) c.self.inside.held c.admit.new.held c.self.inside.site c.self.inside.spare c.admit.new.spare c.args.self.now
    c.in-Err.ensures.content c.in-Err.ensures.held c.in-Err.ensures.same c.self.view_is in
    shows_same c.args.self.now.set (whole (g.S.Sequence.content c.admit.new.seq) c.admit.new.held) (ap (λ (d : Desk). d.set) same)
