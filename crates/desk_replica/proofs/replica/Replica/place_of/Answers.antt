-- The goals of `place_of` that are answered by hand.
use Rattle.std.proofs.Common.{◌≡◌, true, false, true≢false, ap, sym, ◌∙◌, refl}
use Rattle.std.specs.Prelude.{take, count_by, not}
use Rattle.std.specs.List.{prefix_len}
use Rattle.bg_types.specs.Identifier.{same_id}
use Rattle.rga_tree.specs.declared.element.Element.{Element}
use Rattle.rga_tree.proofs.Interface.{before_elements}
use Rattle.desk_replica.proofs.Desks.{reads}
use Rattle.desk_replica.proofs.replica.Replica.place_of.Goals as goal

pub returns-then-not-has-clause-placed : goal.returns-then-not-has-clause-placed
returns-then-not-has-clause-placed g c =
    let r = reads (g.S.Sequence.content c.self.inside.seq) c.self.inside.held c.self.inside.site c.self.inside.spare c.args.self.now (record { well = g.met.S.Sequence.well_formed c.self.inside.seq; tree = g.met.S.Sequence.is_tree c.self.inside.seq; only = g.met.S.Sequence.only_placed c.self.inside.seq }) c.self.invariant.settled c.self.view_is in
    let gone : c.has.result ≡ false = c.if-not-has.true in
    ((λ no. absurd (true≢false (sym no))), (λ at. absurd (true≢false (sym (r.attached c.args.id at) ∙ sym c.has.ensures ∙ gone))))

pub returns-clause-placed : goal.returns-clause-placed
returns-clause-placed g c =
    let r = reads (g.S.Sequence.content c.self.inside.seq) c.self.inside.held c.self.inside.site c.self.inside.spare c.args.self.now (record { well = g.met.S.Sequence.well_formed c.self.inside.seq; tree = g.met.S.Sequence.is_tree c.self.inside.seq; only = g.met.S.Sequence.only_placed c.self.inside.seq }) c.self.invariant.settled c.self.view_is in
    let there : c.has.result ≡ true = c.if-not-has.false in
    ((λ _. r.placed c.args.id (sym c.has.ensures ∙ there)), (λ _. refl))

pub returns-clause-value : goal.returns-clause-value
returns-clause-value g c =
    let r = reads (g.S.Sequence.content c.self.inside.seq) c.self.inside.held c.self.inside.site c.self.inside.spare c.args.self.now (record { well = g.met.S.Sequence.well_formed c.self.inside.seq; tree = g.met.S.Sequence.is_tree c.self.inside.seq; only = g.met.S.Sequence.only_placed c.self.inside.seq }) c.self.invariant.settled c.self.view_is in
    let t = g.S.Sequence.content c.self.inside.seq in
    c.visible_before.ensures ∙ sym (before_elements t c.args.id)
    ∙ ap (λ row. count_by (λ (e : Element). not e.hidden) (take (prefix_len (λ (e : Element). not (same_id c.args.id e.id)) row) row)) r.elements_is ∙ before_elements c.args.self.now.set c.args.id

pub visible_before-requires : goal.visible_before-requires
visible_before-requires g c = sym c.has.ensures ∙ c.if-not-has.false
