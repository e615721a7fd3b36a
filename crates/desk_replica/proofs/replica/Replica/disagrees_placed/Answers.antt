-- The goals of `disagrees_placed` that are answered by hand.
use Rattle.std.proofs.Common.{sym, subst, ◌∙◌, arith}
use Rattle.std.specs.Prelude.{All}
use Rattle.std.proofs.lemmas.List.Elements.{All-append}
use Rattle.bg_types.specs.OperationSet.{MayJoin}
use Rattle.rga_tree.specs.declared.element.Element.{Element}
use Rattle.rga_tree.specs.Elements.{elements}
use Rattle.desk_replica.specs.Desk.{insertion_of}
use Rattle.desk_replica.proofs.Disagreeing.{agree_placed, disagree_placed, part_contains, part_follows}
use Rattle.desk_replica.proofs.InTurn.{joined_push, joined_all}
use Rattle.desk_replica.proofs.replica.Replica.disagrees_placed.Goals as goal

pub disagrees_row-requires : goal.disagrees_row-requires
disagrees_row-requires g c =
    let seq = c.args.seq.now in
    part_follows (g.S.Sequence.content seq) (g.S.Sequence.parts seq) c.loop-p.p c.part.result.now (g.met.S.Sequence.well_formed seq) (g.met.S.Sequence.whole seq) (omega (arith, c.loop-p-test.true, c.part_count-p-end.ensures)) c.part.ensures

pub returns-then-disagrees_row-clause-yes : goal.returns-then-disagrees_row-clause-yes
returns-then-disagrees_row-clause-yes g c =
    let seq = c.args.seq.now in
    let h = c.if-disagrees_row.ensures.yes in
    let there = part_contains (g.S.Sequence.parts seq) c.loop-p.p c.part.result.now (elements (g.S.Sequence.content seq)) h.0 (omega (arith, c.loop-p-test.true, c.part_count-p-end.ensures)) c.part.ensures (g.met.S.Sequence.whole seq) h.1 in
    disagree_placed c.args.self.now.set (g.S.Sequence.content seq) (h.0, there, h.2)

pub loop-p-preserved : goal.loop-p-preserved
loop-p-preserved g c =
    let parts = g.S.Sequence.parts c.args.seq.now in
    let row = c.part.result.now in
    let may = λ (e : Element). MayJoin c.args.self.now.set (insertion_of e) in
    subst (All may) (sym (joined_push parts c.loop-p.p row (omega (arith, c.loop-p-test.true, c.part_count-p-end.ensures)) c.part.ensures))
    (All-append may _ row c.loop-p.invariant c.if-disagrees_row.ensures.no)

pub returns-clause-no : goal.returns-clause-no
returns-clause-no g c =
    let seq = c.args.seq.now in
    let parts = g.S.Sequence.parts seq in
    let done = c.loop-p-test.false in
    let may = λ (e : Element). MayJoin c.args.self.now.set (insertion_of e) in
    agree_placed c.args.self.now.set (g.S.Sequence.content seq) (record { well = g.met.S.Sequence.well_formed seq; tree = g.met.S.Sequence.is_tree seq; only = g.met.S.Sequence.only_placed seq })
    (subst (All may) (joined_all parts c.loop-p.p (omega (arith, c.part_count-p-end.ensures)) ∙ g.met.S.Sequence.whole seq) c.loop-p.invariant)
