-- The goals of `replace` that are answered by hand.
use Rattle.std.proofs.Common.{◌≡◌, ◌≤◌, ◌+◌, ◌-◌, ◌++◌, length, drop, take, ap, ◌∙◌, arith}
use Rattle.std.specs.Str.{chars}
use Rattle.bg_types.specs.OperationSet.{next, size}
use Rattle.rga_tree.specs.TextOf.{text, visible}
use Rattle.desk_replica.specs.Desk.{Desk}
use Rattle.desk_replica.proofs.Desks.{well_formed_desk}
use Rattle.desk_replica.proofs.Replacing.{typed_part, text_replaced, next_replaced, size_replaced}
use Rattle.desk_replica.proofs.replica.Replica.replace.Goals as goal

pub returns-in-Ok-clause-replaced : goal.returns-in-Ok-clause-replaced
returns-in-Ok-clause-replaced g c =
    let d : Desk = c.args.self.now in
    let well = well_formed_desk (g.S.Sequence.content c.self.inside.seq) c.self.inside.held c.self.inside.site c.self.inside.spare d
    (record { well = g.met.S.Sequence.well_formed c.self.inside.seq; tree = g.met.S.Sequence.is_tree c.self.inside.seq; only = g.met.S.Sequence.only_placed c.self.inside.seq }) c.self.invariant.settled c.self.view_is in
    let n = c.args.to - c.args.from in
    let typed = chars c.args.characters.now in
    let within : c.args.from + n ≤ length (visible d.set) = omega (arith, c.requires.order, c.requires.within) in
    let end : c.args.from + n ≡ c.args.to = omega (arith, c.requires.order) in
    ap text c.in-Ok.ensures.set ∙ text_replaced d.set c.args.from n well within d.site typed (typed_part d.set d.site c.args.from n typed c.in-Ok.ensures.well_formed)
    ∙ ap (λ m. take c.args.from (text d.set) ++ (typed ++ drop m (text d.set))) end

pub returns-in-Ok-clause-counter : goal.returns-in-Ok-clause-counter
returns-in-Ok-clause-counter g c =
    let d : Desk = c.args.self.now in
    let well = well_formed_desk (g.S.Sequence.content c.self.inside.seq) c.self.inside.held c.self.inside.site c.self.inside.spare d
    (record { well = g.met.S.Sequence.well_formed c.self.inside.seq; tree = g.met.S.Sequence.is_tree c.self.inside.seq; only = g.met.S.Sequence.only_placed c.self.inside.seq }) c.self.invariant.settled c.self.view_is in
    let n = c.args.to - c.args.from in
    let typed = chars c.args.characters.now in
    let within : c.args.from + n ≤ length (visible d.set) = omega (arith, c.requires.order, c.requires.within) in
    ap next c.in-Ok.ensures.set ∙ next_replaced d.set c.args.from n well within d.site typed (typed_part d.set d.site c.args.from n typed c.in-Ok.ensures.well_formed)

pub returns-in-Ok-clause-size : goal.returns-in-Ok-clause-size
returns-in-Ok-clause-size g c =
    let d : Desk = c.args.self.now in
    let well = well_formed_desk (g.S.Sequence.content c.self.inside.seq) c.self.inside.held c.self.inside.site c.self.inside.spare d
    (record { well = g.met.S.Sequence.well_formed c.self.inside.seq; tree = g.met.S.Sequence.is_tree c.self.inside.seq; only = g.met.S.Sequence.only_placed c.self.inside.seq }) c.self.invariant.settled c.self.view_is in
    let n = c.args.to - c.args.from in
    let typed = chars c.args.characters.now in
    let within : c.args.from + n ≤ length (visible d.set) = omega (arith, c.requires.order, c.requires.within) in
    ap size c.in-Ok.ensures.set ∙ size_replaced d.set c.args.from n well within d.site typed (typed_part d.set d.site c.args.from n typed c.in-Ok.ensures.well_formed)

pub returns-in-Ok-clause-spare : goal.returns-in-Ok-clause-spare
returns-in-Ok-clause-spare g c = omega (arith, returns-in-Ok-clause-size g c, c.in-Ok.ensures.spare, c.code_points-typed.ensures)
