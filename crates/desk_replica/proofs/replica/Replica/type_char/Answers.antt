-- The goals of `type_char` that are answered by hand.
use Rattle.std.proofs.Common.{◌≡◌, sym, ap, subst, ◌∙◌, rules, arith}
use Rattle.bg_types.specs.OperationSet.{size, with_operation}
use Rattle.bg_types.specs.declared.op.OpView.{OpView}
use Rattle.desk_replica.specs.Reply.{IsRefused}
use Rattle.bg_types.specs.WellFormed.{IsWellFormed}
use Rattle.desk_replica.specs.Desk.{Desk}
use Rattle.desk_replica.specs.Typing.{typed, insertion, IsTypedAt}
use Rattle.desk_replica.proofs.Typing.{typed_desk, typed_refused}
use Rattle.desk_replica.proofs.replica.Replica.type_char.Goals as goal

pub returns-then-self-ge-MOST_OPERATIONS-clause-fault : goal.returns-then-self-ge-MOST_OPERATIONS-clause-fault
returns-then-self-ge-MOST_OPERATIONS-clause-fault g c =
    let kept = c.self.invariant.counted.kept_is ∙ ap (λ (d : Desk). size d.set) c.self.view_is in
    let limited = c.self.invariant.counted.limited in
    let full = c.if-self-ge-MOST_OPERATIONS.true in
    (search rules, omega (arith, kept, limited, full))

pub returns-in-Ok-clause-typed : goal.returns-in-Ok-clause-typed
returns-in-Ok-clause-typed g c =
    let d : Desk = c.args.self.now in
    let formed : IsWellFormed (insertion (typed d.set d.site c.args.place c.args.ch)) = subst IsWellFormed c.make-op.ensures.op c.make-op.ensures.well_formed in
    let at = typed_desk (g.S.Sequence.content c.self.inside.seq) c.self.inside.held c.self.inside.site c.self.inside.spare d
    (record { well = g.met.S.Sequence.well_formed c.self.inside.seq; tree = g.met.S.Sequence.is_tree c.self.inside.seq; only = g.met.S.Sequence.only_placed c.self.inside.seq }) c.self.invariant.settled c.self.view_is
    d.site c.args.place c.args.ch c.requires formed in
    let set : c.take.new.self.set ≡ with_operation d.set (insertion (typed d.set d.site c.args.place c.args.ch)) = c.in-Ok.ensures.ok ∙ (λ i. with_operation ((c.make-op.ensures.unchanged i).set) (c.make-op.ensures.op i)) in
    subst (λ x. IsTypedAt d.set x c.args.place (typed d.set d.site c.args.place c.args.ch)) (sym set) at

pub returns-in-Err-clause-unpaid : goal.returns-in-Err-clause-unpaid
returns-in-Err-clause-unpaid g c = λ _.
    let d : Desk = c.args.self.now in
    let fault = c.in-Err.field-0 in
    let refused : IsRefused d.set (insertion (typed d.set d.site c.args.place c.args.ch)) fault =
    subst (λ (o : OpView). IsRefused d.set o fault) c.make-op.ensures.op (subst (λ (x : Desk). IsRefused x.set c.make-op.result fault) c.make-op.ensures.unchanged c.in-Err.ensures.answer) in
    let room = c.if-self-ge-MOST_OPERATIONS.false in
    let kept = c.self.invariant.counted.kept_is ∙ ap (λ (x : Desk). size x.set) c.self.view_is in
    let memory = typed_refused d.set d.site c.args.place c.args.ch fault (omega (arith, room, kept)) refused in
    ap (λ (x : Desk). x.spare) (sym c.make-op.ensures.unchanged) ∙ c.in-Err.ensures.unpaid memory
