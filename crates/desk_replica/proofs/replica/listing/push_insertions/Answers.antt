-- The goals of `push_insertions` that are answered by hand.
use Rattle.std.proofs.Common.{◌+◌, ◌++◌, List, take, sym, ap, ◌∙◌, arith}
use Rattle.std.proofs.lemmas.List.{append-nil}
use Rattle.rga_tree.specs.declared.element.Element.{Element}
use Rattle.desk_replica.specs.Listed.{insertions_in}
use Rattle.desk_replica.proofs.Rows.{insertions-append}
use Rattle.desk_replica.proofs.InTurn.{joined, joined_push, joined_all}
use Rattle.desk_replica.proofs.Listing.{listed_on}
use Rattle.desk_replica.proofs.Disagreeing.{part_follows}
use Rattle.desk_replica.proofs.replica.listing.push_insertions.Goals as goal

pub loop-p-init : goal.loop-p-init
loop-p-init g c = sym (append-nil c.args.ops.now.items)

pub loop-p-preserved : goal.loop-p-preserved
loop-p-preserved g c =
    let parts = g.S.Sequence.parts c.args.seq.now in
    let p = c.loop-p.p in
    let row = c.part.result.now in
    listed_on insertions_in insertions-append c.args.ops.now.items c.loop-p.ops.items c.push_row.new.ops.items (joined (take p parts)) row (joined (take (p + 1) parts))
    c.loop-p.invariant c.in_ok-push_row.ensures (joined_push parts p row (omega (arith, c.loop-p-test.true, c.part_count-p-end.ensures)) c.part.ensures)

pub returns : goal.returns
returns g c =
    let seq = c.args.seq.now in
    c.loop-p.invariant
    ∙ ap (λ (r : List Element). c.args.ops.now.items ++ insertions_in r) (joined_all (g.S.Sequence.parts seq) c.loop-p.p (omega (arith, c.loop-p-test.false, c.part_count-p-end.ensures)) ∙ g.met.S.Sequence.whole seq)

pub push_row-requires : goal.push_row-requires
push_row-requires g c =
    let seq = c.args.seq.now in
    part_follows (g.S.Sequence.content seq) (g.S.Sequence.parts seq) c.loop-p.p c.part.result.now (g.met.S.Sequence.well_formed seq) (g.met.S.Sequence.whole seq) (omega (arith, c.loop-p-test.true, c.part_count-p-end.ensures)) c.part.ensures
