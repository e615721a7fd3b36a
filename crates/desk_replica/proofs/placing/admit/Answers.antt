-- The goals of `admit` that are answered by hand.
use Rattle.std.proofs.Common.{◌≡◌, Ok, refl, false, true, sym, ap, subst, ◌∙◌, arith, rules}
use Rattle.std.specs.Prelude.{Result, OnOk}
use Rattle.std.proofs.lemmas.Result.{IfOk-at_ok}
use Rattle.bg_types.specs.OperationSet.{with_operation}
use Rattle.desk_replica.specs.Placement.{IsSettled, MayPlace, reaches_in, whole}
use Rattle.desk_replica.specs.Reply.{IsAdmitted, IsTaken}
use Rattle.desk_replica.proofs.FirstTurn.{held_within}
use Rattle.desk_replica.proofs.Admitting.{settled_as, still_paid, target_there, whole_as, held_paid, held_new, held_settled, held_whole, waits_answer, hidden_settled, hidden_whole, may_reach, hides, on_err}
use Rattle.bg_types.specs.declared.change.Change.TheVariants.{Cut}
use Rattle.rga_tree.specs.TextOf.{visible_before}
use Rattle.desk_replica.specs.Listening.{HasRoomFor, told_count}
use Rattle.desk_replica.proofs.Tellings.{tells_nothing, tells_more, tells_whole, tells_hidden, one_told, formed_whole, part_with, shows_same, stays_old}
use Rattle.desk_replica.proofs.Hearing.{room_one, room_untold, still_visible, no_hiding}
use Rattle.desk_replica.proofs.placing.admit.Goals as goal

-- what holds after a call that was not refused
of_ok : {A E : Type 0} {r : Result A E} {x : A} (P : Type 0) → r ≡ Ok x → OnOk r P → P
of_ok P is ok = IfOk-at_ok (λ _. P) is ok

pub pay-requires-clause-few : goal.pay-requires-clause-few
pay-requires-clause-few g c = omega (arith, held_within (g.S.Sequence.content c.args.seq.now) c.args.held.now.held, c.requires.admitted.room)

pub pay-requires-in-Insert-clause-few : goal.pay-requires-in-Insert-clause-few
pay-requires-in-Insert-clause-few g c = omega (arith, held_within (g.S.Sequence.content c.args.seq.now) c.args.held.now.held, c.requires.admitted.room)

pub returns-in_err-pay-clause-unpaid : goal.returns-in_err-pay-clause-unpaid
returns-in_err-pay-clause-unpaid g c = λ room.
    let t = g.S.Sequence.content c.args.seq.now in
    let no : c.reaches.result ≡ false = search rules in
    on_err c.from_residual.result _ (
      c.in_err-pay.ensures.unpaid (room_untold 0 c.args.held.now.held c.args.op.now),
      (waits_answer t c.args.held.now c.args.op.now (record { well = g.met.S.Sequence.well_formed c.args.seq.now; tree = g.met.S.Sequence.is_tree c.args.seq.now; only = g.met.S.Sequence.only_placed c.args.seq.now })
          c.requires.settled c.requires.admitted c.reaches.ensures.well_formed (sym c.reaches.ensures.value ∙ no)).1,
    )

pub unwrap-requires : goal.unwrap-requires
unwrap-requires g c = c.hold.ensures.paid (omega (arith, c.in_ok-pay.ensures.paid.held))

pub hold-requires : goal.hold-requires
hold-requires g c =
    let t = g.S.Sequence.content c.args.seq.now in
    let u = g.S.Sequence.content c.pay.new.seq in
    let same = whole_as t u c.args.held.now c.pay.new.held c.pay.ensures.content c.pay.ensures.held in
    held_new u c.pay.new.held c.args.op.now (subst (λ s. IsAdmitted s c.args.op.now) (sym same) c.requires.admitted)

pub returns-then-not-reaches-clause-settled : goal.returns-then-not-reaches-clause-settled
returns-then-not-reaches-clause-settled g c =
    let t = g.S.Sequence.content c.args.seq.now in
    let u = g.S.Sequence.content c.pay.new.seq in
    let w = c.args.held.now in
    let v = c.pay.new.held in
    let no : c.reaches.result ≡ false = search rules in
    let same = whole_as t u w v c.pay.ensures.content c.pay.ensures.held in
    held_settled u v c.hold.new.self c.args.op.now (settled_as t u w v c.pay.ensures.content c.pay.ensures.held c.pay.ensures.released c.requires.settled)
    (subst (λ s. IsAdmitted s c.args.op.now) (sym same) c.requires.admitted) c.reaches.ensures.well_formed
    (subst (λ x. reaches_in x c.args.op.now ≡ false) (sym c.pay.ensures.content) (sym c.reaches.ensures.value ∙ no))
    (of_ok _ c.unwrap.ensures c.hold.ensures.ok) c.hold.ensures.released

pub returns-then-not-reaches-clause-ok : goal.returns-then-not-reaches-clause-ok
returns-then-not-reaches-clause-ok g c =
    let t = g.S.Sequence.content c.args.seq.now in
    let u = g.S.Sequence.content c.pay.new.seq in
    let same = whole_as t u c.args.held.now c.pay.new.held c.pay.ensures.content c.pay.ensures.held in
    held_whole u c.pay.new.held c.hold.new.self c.args.op.now (subst (λ s. IsAdmitted s c.args.op.now) (sym same) c.requires.admitted) (of_ok _ c.unwrap.ensures c.hold.ensures.ok)
    ∙ ap (λ s. with_operation s c.args.op.now) same

pub returns-then-not-reaches-clause-paid : goal.returns-then-not-reaches-clause-paid
returns-then-not-reaches-clause-paid g c =
    held_paid (g.S.Sequence.free c.pay.new.seq) c.pay.new.held c.hold.new.self c.args.op.now c.pay.new.spare (of_ok _ c.unwrap.ensures c.hold.ensures.ok) (of_ok _ c.unwrap.ensures c.hold.ensures.room) c.in_ok-pay.ensures.paid

pub returns-then-not-reaches-clause-answer : goal.returns-then-not-reaches-clause-answer
returns-then-not-reaches-clause-answer g c =
    let t = g.S.Sequence.content c.args.seq.now in
    let no : c.reaches.result ≡ false = search rules in
    let a = waits_answer t c.args.held.now c.args.op.now (record { well = g.met.S.Sequence.well_formed c.args.seq.now; tree = g.met.S.Sequence.is_tree c.args.seq.now; only = g.met.S.Sequence.only_placed c.args.seq.now })
    c.requires.settled c.requires.admitted c.reaches.ensures.well_formed (sym c.reaches.ensures.value ∙ no) in
    (c.requires.admitted, a.0, a.1)

pub place_new-requires-clause-may : goal.place_new-requires-clause-may
place_new-requires-clause-may g c =
    let yes : c.reaches.result ≡ true = search rules in
    subst (λ x. MayPlace x c.args.op.now) (sym c.pay-in-Insert.ensures.content)
    (may_reach (g.S.Sequence.content c.args.seq.now) c.args.held.now c.in-Insert.id c.in-Insert.parent c.in-Insert.ch c.args.op.now c.in-Insert.ensures.value c.requires.admitted (sym c.reaches.ensures.value ∙ yes))

pub returns-in_ok-pay-in-Insert-clause-paid : goal.returns-in_ok-pay-in-Insert-clause-paid
returns-in_ok-pay-in-Insert-clause-paid g c = c.place_new.ensures.paid c.pay-in-Insert.new.spare c.in_ok-pay-in-Insert.ensures.paid

pub returns-in_ok-make_room-in-Erase-clause-settled : goal.returns-in_ok-make_room-in-Erase-clause-settled
returns-in_ok-make_room-in-Erase-clause-settled g c =
    let u = g.S.Sequence.content c.hide.new.self in
    subst (IsSettled u) (sym c.make_room.ensures.held) (hidden_settled (g.S.Sequence.content c.args.seq.now) u c.args.held.now c.in-Erase.target c.hide.ensures.content c.requires.settled)

pub returns-in_ok-make_room-in-Erase-clause-ok : goal.returns-in_ok-make_room-in-Erase-clause-ok
returns-in_ok-make_room-in-Erase-clause-ok g c =
    let t = g.S.Sequence.content c.args.seq.now in
    let u = g.S.Sequence.content c.hide.new.self in
    ap (whole u) c.make_room.ensures.held ∙ hidden_whole t u c.args.held.now c.in-Erase.target c.hide.ensures.content ∙ ap (with_operation (whole t c.args.held.now)) c.in-Erase.ensures.value

pub returns-in_ok-make_room-in-Erase-clause-answer : goal.returns-in_ok-make_room-in-Erase-clause-answer
returns-in_ok-make_room-in-Erase-clause-answer g c =
    let t = g.S.Sequence.content c.args.seq.now in
    let yes : c.reaches.result ≡ true = search rules in (
      c.requires.admitted,
      hides t c.args.held.now c.in-Erase.target c.args.op.now c.in-Erase.ensures.value (record { well = g.met.S.Sequence.well_formed c.args.seq.now; tree = g.met.S.Sequence.is_tree c.args.seq.now; only = g.met.S.Sequence.only_placed c.args.seq.now })
          c.requires.settled (sym c.reaches.ensures.value ∙ yes),
    )

pub place_new-requires-clause-settled : goal.place_new-requires-clause-settled
place_new-requires-clause-settled g c =
    settled_as (g.S.Sequence.content c.args.seq.now) (g.S.Sequence.content c.pay-in-Insert.new.seq) c.args.held.now c.pay-in-Insert.new.held
    c.pay-in-Insert.ensures.content c.pay-in-Insert.ensures.held c.pay-in-Insert.ensures.released c.requires.settled

pub place_new-requires-clause-admitted : goal.place_new-requires-clause-admitted
place_new-requires-clause-admitted g c =
    subst (λ s. IsAdmitted s c.args.op.now) (sym (whole_as (g.S.Sequence.content c.args.seq.now) (g.S.Sequence.content c.pay-in-Insert.new.seq) c.args.held.now c.pay-in-Insert.new.held c.pay-in-Insert.ensures.content c.pay-in-Insert.ensures.held))
    c.requires.admitted

pub place_new-requires-clause-room : goal.place_new-requires-clause-room
place_new-requires-clause-room g c = omega (arith, c.in_ok-pay-in-Insert.ensures.paid.placed)

pub hear_cut-requires-clause-placed : goal.hear_cut-requires-clause-placed
hear_cut-requires-clause-placed g c =
    let yes : c.reaches.result ≡ true = search rules in
    target_there (g.S.Sequence.content c.args.seq.now) c.in-Erase.target c.args.op.now c.in-Erase.ensures.value (sym c.reaches.ensures.value ∙ yes)

pub hide-requires : goal.hide-requires
hide-requires g c =
    let yes : c.reaches.result ≡ true = search rules in
    target_there (g.S.Sequence.content c.args.seq.now) c.in-Erase.target c.args.op.now c.in-Erase.ensures.value (sym c.reaches.ensures.value ∙ yes)

pub returns-in_ok-pay-in-Insert-clause-ok : goal.returns-in_ok-pay-in-Insert-clause-ok
returns-in_ok-pay-in-Insert-clause-ok g c =
    c.place_new.ensures.whole
    ∙ ap (λ s. with_operation s c.args.op.now) (whole_as (g.S.Sequence.content c.args.seq.now) (g.S.Sequence.content c.pay-in-Insert.new.seq) c.args.held.now c.pay-in-Insert.new.held c.pay-in-Insert.ensures.content c.pay-in-Insert.ensures.held)

pub returns-in_ok-pay-in-Insert-clause-answer : goal.returns-in_ok-pay-in-Insert-clause-answer
returns-in_ok-pay-in-Insert-clause-answer g c =
    subst (λ s. IsTaken s c.args.op.now c.place_new.result) (whole_as (g.S.Sequence.content c.args.seq.now) (g.S.Sequence.content c.pay-in-Insert.new.seq) c.args.held.now c.pay-in-Insert.new.held c.pay-in-Insert.ensures.content c.pay-in-Insert.ensures.held)
    c.place_new.ensures.answer

pub returns-in_err-pay-clause-settled : goal.returns-in_err-pay-clause-settled
returns-in_err-pay-clause-settled g c =
    settled_as (g.S.Sequence.content c.args.seq.now) (g.S.Sequence.content c.pay.new.seq) c.args.held.now c.pay.new.held c.pay.ensures.content c.pay.ensures.held c.pay.ensures.released c.requires.settled

pub returns-in_err-pay-in-Insert-clause-settled : goal.returns-in_err-pay-in-Insert-clause-settled
returns-in_err-pay-in-Insert-clause-settled g c =
    settled_as (g.S.Sequence.content c.args.seq.now) (g.S.Sequence.content c.pay-in-Insert.new.seq) c.args.held.now c.pay-in-Insert.new.held
    c.pay-in-Insert.ensures.content c.pay-in-Insert.ensures.held c.pay-in-Insert.ensures.released c.requires.settled

pub returns-in_err-pay-clause-paid : goal.returns-in_err-pay-clause-paid
returns-in_err-pay-clause-paid g c =
    still_paid (g.S.Sequence.free c.args.seq.now) (g.S.Sequence.free c.pay.new.seq) c.args.held.now c.pay.new.held c.args.spare.now c.pay.new.spare c.pay.ensures.kept c.in_err-pay.ensures.err c.in_err-pay.ensures.same c.requires.paid

pub returns-in_err-pay-in-Insert-clause-paid : goal.returns-in_err-pay-in-Insert-clause-paid
returns-in_err-pay-in-Insert-clause-paid g c =
    still_paid (g.S.Sequence.free c.args.seq.now) (g.S.Sequence.free c.pay-in-Insert.new.seq) c.args.held.now c.pay-in-Insert.new.held c.args.spare.now c.pay-in-Insert.new.spare
    c.pay-in-Insert.ensures.kept c.in_err-pay-in-Insert.ensures.err c.in_err-pay-in-Insert.ensures.same c.requires.paid

-- ---- what is told

pub returns-in_err-pay-clause-told : goal.returns-in_err-pay-clause-told
returns-in_err-pay-clause-told g c =
    let told = g.L.Listener.told c.args.listener.now in
    tells_nothing (whole (g.S.Sequence.content c.args.seq.now) c.args.held.now) (whole (g.S.Sequence.content c.pay.new.seq) c.pay.new.held) told told (formed_whole (g.S.Sequence.content c.args.seq.now) c.args.held.now (record { well = g.met.S.Sequence.well_formed c.args.seq.now; tree = g.met.S.Sequence.is_tree c.args.seq.now; only = g.met.S.Sequence.only_placed c.args.seq.now }) c.requires.settled)
    (whole_as (g.S.Sequence.content c.args.seq.now) (g.S.Sequence.content c.pay.new.seq) c.args.held.now c.pay.new.held c.pay.ensures.content c.pay.ensures.held) refl

pub returns-then-not-reaches-clause-told : goal.returns-then-not-reaches-clause-told
returns-then-not-reaches-clause-told g c =
    let t = g.S.Sequence.content c.args.seq.now in
    let u = g.S.Sequence.content c.pay.new.seq in
    let told = g.L.Listener.told c.args.listener.now in
    tells_whole t u c.args.held.now c.hold.new.self told told (record { well = g.met.S.Sequence.well_formed c.args.seq.now; tree = g.met.S.Sequence.is_tree c.args.seq.now; only = g.met.S.Sequence.only_placed c.args.seq.now }) c.requires.settled
    (record { well = g.met.S.Sequence.well_formed c.pay.new.seq; tree = g.met.S.Sequence.is_tree c.pay.new.seq; only = g.met.S.Sequence.only_placed c.pay.new.seq }) (returns-then-not-reaches-clause-settled g c)
    (part_with (whole t c.args.held.now) (whole u c.hold.new.self) c.args.op.now c.requires.admitted.joins (returns-then-not-reaches-clause-ok g c))
    (tells_nothing t u told told (g.met.S.Sequence.well_formed c.args.seq.now) c.pay.ensures.content refl)

pub returns-in_err-pay-in-Insert-clause-told : goal.returns-in_err-pay-in-Insert-clause-told
returns-in_err-pay-in-Insert-clause-told g c =
    tells_nothing (whole (g.S.Sequence.content c.args.seq.now) c.args.held.now) (whole (g.S.Sequence.content c.pay-in-Insert.new.seq) c.pay-in-Insert.new.held)
    (g.L.Listener.told c.args.listener.now) (g.L.Listener.told c.pay-in-Insert.new.listener) (formed_whole (g.S.Sequence.content c.args.seq.now) c.args.held.now (record { well = g.met.S.Sequence.well_formed c.args.seq.now; tree = g.met.S.Sequence.is_tree c.args.seq.now; only = g.met.S.Sequence.only_placed c.args.seq.now }) c.requires.settled) (whole_as (g.S.Sequence.content c.args.seq.now) (g.S.Sequence.content c.pay-in-Insert.new.seq) c.args.held.now c.pay-in-Insert.new.held c.pay-in-Insert.ensures.content c.pay-in-Insert.ensures.held) c.pay-in-Insert.ensures.told

pub returns-in_err-pay-in-Insert-clause-unpaid : goal.returns-in_err-pay-in-Insert-clause-unpaid
returns-in_err-pay-in-Insert-clause-unpaid g c = λ room.
    on_err c.from_residual-in_err-pay-in-Insert.result _ (c.in_err-pay-in-Insert.ensures.unpaid room, (no_hiding (whole (g.S.Sequence.content c.args.seq.now) c.args.held.now) c.in-Insert.id c.in-Insert.parent c.in-Insert.ch c.args.op.now c.in-Insert.ensures.value))

pub returns-in_ok-pay-in-Insert-clause-told : goal.returns-in_ok-pay-in-Insert-clause-told
returns-in_ok-pay-in-Insert-clause-told g c =
    let s = whole (g.S.Sequence.content c.args.seq.now) c.args.held.now in
    let r = whole (g.S.Sequence.content c.pay-in-Insert.new.seq) c.pay-in-Insert.new.held in
    let a = g.L.Listener.told c.args.listener.now in
    let b = g.L.Listener.told c.pay-in-Insert.new.listener in
    let same = whole_as (g.S.Sequence.content c.args.seq.now) (g.S.Sequence.content c.pay-in-Insert.new.seq) c.args.held.now c.pay-in-Insert.new.held c.pay-in-Insert.ensures.content c.pay-in-Insert.ensures.held in
    tells_more s r (whole (g.S.Sequence.content c.place_new.new.seq) c.place_new.new.held) a b (g.L.Listener.told c.place_new.new.listener)
    (tells_nothing s r a b (formed_whole (g.S.Sequence.content c.args.seq.now) c.args.held.now (record { well = g.met.S.Sequence.well_formed c.args.seq.now; tree = g.met.S.Sequence.is_tree c.args.seq.now; only = g.met.S.Sequence.only_placed c.args.seq.now }) c.requires.settled) same c.pay-in-Insert.ensures.told) c.place_new.ensures.told (stays_old s r (whole (g.S.Sequence.content c.place_new.new.seq) c.place_new.new.held) (shows_same r s (sym same)))

pub returns-in_ok-pay-in-Insert-clause-few : goal.returns-in_ok-pay-in-Insert-clause-few
returns-in_ok-pay-in-Insert-clause-few g c = omega (arith, c.place_new.ensures.few, ap told_count c.pay-in-Insert.ensures.told)

pub place_new-requires-clause-told_room : goal.place_new-requires-clause-told_room
place_new-requires-clause-told_room g c =
    subst (λ h. HasRoomFor (g.L.Listener.told c.pay-in-Insert.new.listener) (g.L.Listener.capacity c.pay-in-Insert.new.listener) h c.args.op.now) (sym c.pay-in-Insert.ensures.held) c.in_ok-pay-in-Insert.ensures.room

pub returns-in_err-make_room-in-Erase-clause-told : goal.returns-in_err-make_room-in-Erase-clause-told
returns-in_err-make_room-in-Erase-clause-told g c =
    let t = g.S.Sequence.content c.args.seq.now in
    tells_nothing (whole t c.args.held.now) (whole t c.make_room.new.held) (g.L.Listener.told c.args.listener.now) (g.L.Listener.told c.make_room.new.self) (formed_whole (g.S.Sequence.content c.args.seq.now) c.args.held.now (record { well = g.met.S.Sequence.well_formed c.args.seq.now; tree = g.met.S.Sequence.is_tree c.args.seq.now; only = g.met.S.Sequence.only_placed c.args.seq.now }) c.requires.settled) (ap (whole t) c.make_room.ensures.held) c.make_room.ensures.told

pub returns-in_ok-make_room-in-Erase-clause-told : goal.returns-in_ok-make_room-in-Erase-clause-told
returns-in_ok-make_room-in-Erase-clause-told g c =
    let t = g.S.Sequence.content c.args.seq.now in
    let u = g.S.Sequence.content c.hide.new.self in
    let w = c.args.held.now in
    let a = g.L.Listener.told c.args.listener.now in
    let b = g.L.Listener.told c.make_room.new.self in
    let told = g.L.Listener.told c.hear_cut.new.self in
    let yes : c.reaches.result ≡ true = search rules in
    tells_whole t u w c.make_room.new.held a told (record { well = g.met.S.Sequence.well_formed c.args.seq.now; tree = g.met.S.Sequence.is_tree c.args.seq.now; only = g.met.S.Sequence.only_placed c.args.seq.now }) c.requires.settled
    (record { well = g.met.S.Sequence.well_formed c.hide.new.self; tree = g.met.S.Sequence.is_tree c.hide.new.self; only = g.met.S.Sequence.only_placed c.hide.new.self }) (returns-in_ok-make_room-in-Erase-clause-settled g c)
    (part_with (whole t w) (whole u c.make_room.new.held) c.args.op.now c.requires.admitted.joins (returns-in_ok-make_room-in-Erase-clause-ok g c))
    (tells_more t t u a b told (tells_nothing t t a b (g.met.S.Sequence.well_formed c.args.seq.now) refl c.make_room.ensures.told)
    (tells_hidden t c.in-Erase.target (record { well = g.met.S.Sequence.well_formed c.args.seq.now; tree = g.met.S.Sequence.is_tree c.args.seq.now; only = g.met.S.Sequence.only_placed c.args.seq.now }) (target_there t c.in-Erase.target c.args.op.now c.in-Erase.ensures.value (sym c.reaches.ensures.value ∙ yes))
    (still_visible t w c.in-Erase.target c.args.op.now c.in-Erase.ensures.value c.requires.admitted) u b told (g.met.S.Sequence.well_formed c.hide.new.self) c.hide.ensures.content c.hear_cut.ensures.told)
    (stays_old t t u (λ id h. h)))

pub returns-in_ok-make_room-in-Erase-clause-few : goal.returns-in_ok-make_room-in-Erase-clause-few
returns-in_ok-make_room-in-Erase-clause-few g c =
    let n = one_told false (Cut (visible_before (g.S.Sequence.content c.args.seq.now) c.in-Erase.target)) (g.L.Listener.told c.make_room.new.self) (g.L.Listener.told c.hear_cut.new.self) c.hear_cut.ensures.told in
    omega (arith, n, ap told_count c.make_room.ensures.told)

pub make_room-requires : goal.make_room-requires
make_room-requires g c = omega (arith, held_within (g.S.Sequence.content c.args.seq.now) c.args.held.now.held, c.requires.admitted.room)

pub hear_cut-requires-clause-room : goal.hear_cut-requires-clause-room
hear_cut-requires-clause-room g c = room_one (g.L.Listener.told c.make_room.new.self) (g.L.Listener.capacity c.make_room.new.self) c.args.held.now.held c.args.op.now c.in_ok-make_room-in-Erase.ensures.ok
