-- The goals of `hidden_at` that are answered by hand.
use Rattle.std.proofs.Common.{drop, take, ◌+◌, sym, ◌∙◌, arith}
use Rattle.rga_tree.specs.Elements.{elements}
use Rattle.desk_replica.proofs.Rows.{hidden_middle}
use Rattle.desk_replica.proofs.InTurn.{joined, joined_split}
use Rattle.desk_replica.proofs.reading.hidden_at.Goals as goal

pub returns-in-Ok : goal.returns-in-Ok
returns-in-Ok g c =
    let seq = c.args.seq.now in
    let parts = g.S.Sequence.parts seq in
    let p = c.loop-p.p in
    let row = c.part.result.now in
    hidden_middle (elements (g.S.Sequence.content seq)) (joined (take p parts)) row (joined (drop (p + 1) parts)) c.args.k c.loop-p.left c.in-Ok.id
    (sym (g.met.S.Sequence.whole seq) ∙ joined_split parts p row (omega (arith, c.loop-p-test.true, c.part_count-p-end.ensures)) c.part.ensures) c.loop-p.invariant c.in-Ok.ensures.ok
