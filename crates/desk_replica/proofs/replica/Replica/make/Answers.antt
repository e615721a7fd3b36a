-- The goals of `make` that are answered by hand.
use Rattle.std.proofs.Common.{◌≡◌, ◌+◌, sym, ap, subst, ◌∙◌}
use Rattle.bg_types.specs.Identifier.{Identifier}
use Rattle.bg_types.specs.OperationSet.{next}
use Rattle.bg_types.specs.WellFormed.{IsWellFormed, MayFollow}
use Rattle.bg_types.specs.declared.op.OpView.{OpView}
use Rattle.bg_types.specs.declared.op.OpView.TheVariants.{Insert}
use Rattle.rga_tree.specs.TextOf.{visible_ids}
use Rattle.desk_replica.specs.Desk.{Desk}
use Rattle.desk_replica.specs.Typing.{parent_at}
use Rattle.desk_replica.proofs.Desks.{well_formed_desk}
use Rattle.desk_replica.proofs.Typing.{parent_before, at_some}
use Rattle.desk_replica.proofs.replica.Replica.make.Goals as goal

pub unwrap-requires : goal.unwrap-requires
unwrap-requires g c =
    let d : Desk = c.args.self.now in
    let well = well_formed_desk (g.S.Sequence.content c.self.inside.seq) c.self.inside.held c.self.inside.site c.self.inside.spare d
    (record { well = g.met.S.Sequence.well_formed c.self.inside.seq; tree = g.met.S.Sequence.is_tree c.self.inside.seq; only = g.met.S.Sequence.only_placed c.self.inside.seq }) c.self.invariant.settled c.self.view_is in
    let id = at_some c.new.result c.unwrap-id.result (λ x. x ≡ record { counter = c.self.inside.greatest + 1; site = c.self.inside.site }) c.unwrap-id.ensures c.new.ensures.value in
    let counter : c.unwrap-id.result.counter ≡ next d.set = ap (λ (x : Identifier). x.counter) id ∙ sym c.self.invariant.counted.next_is ∙ ap (λ (x : Desk). next x.set) c.self.view_is in
    let before : MayFollow (parent_at (visible_ids d.set) c.args.place) c.unwrap-id.result = parent_before d.set c.args.place c.unwrap-id.result well c.requires.place counter in
    c.insert.ensures.valid.1 (subst (λ p. MayFollow p c.unwrap-id.result) (sym c.parent_for-parent.ensures.parent) before)

pub returns-clause-op : goal.returns-clause-op
returns-clause-op g c =
    let d : Desk = c.args.self.now in
    let id = at_some c.new.result c.unwrap-id.result (λ x. x ≡ record { counter = c.self.inside.greatest + 1; site = c.self.inside.site }) c.unwrap-id.ensures c.new.ensures.value in
    let op : c.unwrap.result ≡ Insert c.unwrap-id.result c.parent_for-parent.result c.args.ch =
    at_some c.insert.result c.unwrap.result (λ (x : OpView). x ≡ Insert c.unwrap-id.result c.parent_for-parent.result c.args.ch) c.unwrap.ensures c.insert.ensures.value in
    let counter : c.self.inside.greatest + 1 ≡ next d.set = sym c.self.invariant.counted.next_is ∙ ap (λ (x : Desk). next x.set) c.self.view_is in
    let site : c.self.inside.site ≡ d.site = ap (λ (x : Desk). x.site) c.self.view_is in
    let named : c.unwrap-id.result ≡ record { counter = next d.set; site = d.site } = id ∙ (λ i. record { counter = counter i; site = site i }) in
    op ∙ (λ i. Insert (named i) (c.parent_for-parent.ensures.parent i) c.args.ch)

pub returns-clause-well_formed : goal.returns-clause-well_formed
returns-clause-well_formed g c = at_some c.insert.result c.unwrap.result IsWellFormed c.unwrap.ensures c.insert.ensures.well_formed
