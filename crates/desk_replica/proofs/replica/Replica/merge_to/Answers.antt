-- The goals of `merge_to` that are answered by hand.
use Rattle.std.proofs.Common.{◌≡◌, ap, ◌∙◌, refl, arith, inl, inr}
use Rattle.std.proofs.lemmas.Result.{err_from_is_err_and}
use Rattle.bg_types.specs.OperationSet.{size}
use Rattle.desk_replica.specs.declared.answer.TakeFault.TheVariants.{IdentifierReused}
use Rattle.desk_replica.specs.Desk.{Desk}
use Rattle.desk_replica.specs.Listed.{listed}
use Rattle.desk_replica.proofs.Desks.{well_formed_desk}
use Rattle.desk_replica.proofs.Hearing.{heard_nothing, room_to_the_end}
use Rattle.desk_replica.proofs.Merges.{merge_accepted, nothing_refused, refused_otherwise, size_more, stopped_refused, stopped_short, grown_united}
use Rattle.desk_replica.proofs.replica.Replica.merge_to.Goals as goal

pub take_from-requires : goal.take_from-requires
take_from-requires g c = record { well_formed = (well_formed_desk (g.S.Sequence.content c.self.inside.seq) c.self.inside.held c.self.inside.site c.self.inside.spare c.args.self.now (record { well = g.met.S.Sequence.well_formed c.self.inside.seq; tree = g.met.S.Sequence.is_tree c.self.inside.seq; only = g.met.S.Sequence.only_placed c.self.inside.seq }) c.self.invariant.settled c.self.view_is) }

pub returns-then-disagrees-clause-nothing_new : goal.returns-then-disagrees-clause-nothing_new
returns-then-disagrees-clause-nothing_new g c = λ sub.
    absurd (nothing_refused c.args.self.now.set c.args.other.now.set c.args.self.now.set IdentifierReused sub (c.if-disagrees.ensures.yes, refl))

pub returns-then-disagrees-clause-heard : goal.returns-then-disagrees-clause-heard
returns-then-disagrees-clause-heard g c =
    let s = c.args.self.now.set in
    let a = g.L.Listener.told c.args.listener.now in
    let k = g.L.Listener.capacity c.args.listener.now in
    heard_nothing s s a a k k (well_formed_desk (g.S.Sequence.content c.self.inside.seq) c.self.inside.held c.self.inside.site c.self.inside.spare c.args.self.now (record { well = g.met.S.Sequence.well_formed c.self.inside.seq; tree = g.met.S.Sequence.is_tree c.self.inside.seq; only = g.met.S.Sequence.only_placed c.self.inside.seq }) c.self.invariant.settled c.self.view_is) refl refl (omega arith)

pub returns-in_err-take_from-clause-fault : goal.returns-in_err-take_from-clause-fault
returns-in_err-take_from-clause-fault g c =
    let other = c.args.other.now in
    let p = err_from_is_err_and c.from_residual.result c.from_residual.ensures.1 in
    let stop = c.in_err-take_from.ensures.fault in
    rw (p.1, p.2) (stopped_refused c.args.self.now.set other.set c.take_from.new.self.set (listed other) c.if-disagrees.ensures.no c.take_from.ensures.all c.take_from.ensures.grown.grown stop.op c.in_err-take_from.field-0.0 stop.listed stop.refused)

pub returns-in_err-take_from-clause-nothing_new : goal.returns-in_err-take_from-clause-nothing_new
returns-in_err-take_from-clause-nothing_new g c = λ sub.
    let s = c.args.self.now.set in
    let other = c.args.other.now in
    let u = c.take_from.new.self.set in
    let fault = c.in_err-take_from.field-0.0 in
    let stop = c.in_err-take_from.ensures.fault in
    absurd (nothing_refused s other.set u fault sub (stopped_refused s other.set u (listed other) c.if-disagrees.ensures.no c.take_from.ensures.all c.take_from.ensures.grown.grown stop.op fault stop.listed stop.refused))

pub returns-in_err-take_from-clause-reused : goal.returns-in_err-take_from-clause-reused
returns-in_err-take_from-clause-reused g c =
    let s = c.args.self.now.set in
    let other = c.args.other.now in
    let u = c.take_from.new.self.set in
    let fault = c.in_err-take_from.field-0.0 in
    let p = err_from_is_err_and c.from_residual.result c.from_residual.ensures.1 in
    let stop = c.in_err-take_from.ensures.fault in
    rw (p.1, p.2) (refused_otherwise s other.set u fault (c.take_from.new.self ≡ c.args.self.now) c.if-disagrees.ensures.no
    (stopped_refused s other.set u (listed other) c.if-disagrees.ensures.no c.take_from.ensures.all c.take_from.ensures.grown.grown stop.op fault stop.listed stop.refused))

pub returns-in_err-take_from-clause-unpaid : goal.returns-in_err-take_from-clause-unpaid
returns-in_err-take_from-clause-unpaid g c = λ room.
    let s = c.args.self.now.set in
    let other = c.args.other.now in
    let u = c.take_from.new.self.set in
    let fault = c.in_err-take_from.field-0.0 in
    let stop = c.in_err-take_from.ensures.fault in
    let p = err_from_is_err_and c.from_residual.result c.from_residual.ensures.1 in
    let short = stopped_short s other.set u (listed other) c.if-disagrees.ensures.no c.take_from.ensures.all c.take_from.ensures.grown.grown stop.op fault stop.listed stop.refused in
    rw (p.1, p.2) (λ memory. elim (stop.unpaid memory) [
      | inl none ↦ omega (arith, short, c.take_from.ensures.grown.spare, none)
      | inr full ↦ absurd (full (room_to_the_end s other.set u (g.L.Listener.told c.args.listener.now) (g.L.Listener.told c.take_from.new.listener) (g.L.Listener.capacity c.args.listener.now) (g.L.Listener.capacity c.take_from.new.listener) (well_formed_desk (g.S.Sequence.content c.self.inside.seq) c.self.inside.held c.self.inside.site c.self.inside.spare c.args.self.now (record { well = g.met.S.Sequence.well_formed c.self.inside.seq; tree = g.met.S.Sequence.is_tree c.self.inside.seq; only = g.met.S.Sequence.only_placed c.self.inside.seq }) c.self.invariant.settled c.self.view_is)
          c.take_from.ensures.heard short room))
    ])

pub overflow_sub-result : goal.overflow_sub-result
overflow_sub-result g c =
    let s = c.args.self.now.set in
    let u = c.take_from.new.self.set in
    let le = size_more s u c.take_from.ensures.grown.grown.keeps in
    let a = c.self.invariant.counted.kept_is ∙ ap (λ (d : Desk). size d.set) c.self.view_is in
    let b = c.self-2.invariant.counted.kept_is ∙ ap (λ (d : Desk). size d.set) c.self-2.view_is in
    omega (arith, le, a, b)

pub returns-clause-ok : goal.returns-clause-ok
returns-clause-ok g c =
    grown_united c.args.self.now.set c.args.other.now.set c.take_from.new.self.set (listed c.args.other.now) c.if-disagrees.ensures.no c.take_from.ensures.all c.take_from.ensures.grown.grown c.in_ok-take_from.ensures.ok

pub returns-clause-count : goal.returns-clause-count
returns-clause-count g c =
    let s = c.args.self.now.set in
    let u = c.take_from.new.self.set in
    let le = size_more s u c.take_from.ensures.grown.grown.keeps in
    let a = c.self.invariant.counted.kept_is ∙ ap (λ (d : Desk). size d.set) c.self.view_is in
    let b = c.self-2.invariant.counted.kept_is ∙ ap (λ (d : Desk). size d.set) c.self-2.view_is in
    omega (arith, le, a, b)

pub returns-clause-accepted : goal.returns-clause-accepted
returns-clause-accepted g c =
    let s = c.args.self.now.set in
    let t = c.args.other.now.set in
    let united = grown_united s t c.take_from.new.self.set (listed c.args.other.now) c.if-disagrees.ensures.no c.take_from.ensures.all c.take_from.ensures.grown.grown c.in_ok-take_from.ensures.ok in
    let limited = c.self-2.invariant.counted.limited in
    let kept = c.self-2.invariant.counted.kept_is ∙ ap (λ (d : Desk). size d.set) c.self-2.view_is ∙ ap size united in
    merge_accepted s t c.if-disagrees.ensures.no (omega (arith, limited, kept))
