-- The goals of `text` that are answered by hand.
use Rattle.std.proofs.Common.{◌≡◌, ap, ◌∙◌, subst, arith}
use Rattle.std.specs.Prelude.{IfOk, string_bytes, encode_utf8_all}
use Rattle.bg_types.specs.OperationSet.{size}
use Rattle.desk_replica.specs.Desk.{Desk}
use Rattle.desk_replica.proofs.Bounds.{text_within}
use Rattle.desk_replica.proofs.Desks.{reads, well_formed_desk}
use Rattle.desk_replica.proofs.replica.Replica.text.Goals as goal

pub returns-clause-ok : goal.returns-clause-ok
returns-clause-ok g c =
    subst (λ x. IfOk c.text_of.result (λ s. string_bytes s ≡ encode_utf8_all x))
    (reads (g.S.Sequence.content c.self.inside.seq) c.self.inside.held c.self.inside.site c.self.inside.spare c.args.self.now (record { well = g.met.S.Sequence.well_formed c.self.inside.seq; tree = g.met.S.Sequence.is_tree c.self.inside.seq; only = g.met.S.Sequence.only_placed c.self.inside.seq }) c.self.invariant.settled c.self.view_is).text_is c.text_of.ensures

pub returns-clause-limited : goal.returns-clause-limited
returns-clause-limited g c =
    let well = well_formed_desk (g.S.Sequence.content c.self.inside.seq) c.self.inside.held c.self.inside.site c.self.inside.spare c.args.self.now (record { well = g.met.S.Sequence.well_formed c.self.inside.seq; tree = g.met.S.Sequence.is_tree c.self.inside.seq; only = g.met.S.Sequence.only_placed c.self.inside.seq }) c.self.invariant.settled c.self.view_is in
    let few = text_within c.args.self.now.set well in
    let kept = c.self.invariant.counted.kept_is ∙ ap (λ (d : Desk). size d.set) c.self.view_is in
    let limited = c.self.invariant.counted.limited in
    omega (arith, few, kept, limited)
