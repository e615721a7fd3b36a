-- A block is joined behind the first of these, or as it.
use Rattle.std.proofs.Common.{◌≤◌, ◌-◌, take, sym, ap, ◌∙◌, arith}
use Rattle.std.proofs.lemmas.List.{take-take}
use Rattle.text_buffer.specs.Blocks.{rows_of}
use Rattle.text_buffer.proofs.replace.join_sparse.Goals as goal

pub loop-q-preserved-then-is_sparse : goal.loop-q-preserved-then-is_sparse
loop-q-preserved-then-is_sparse g c =
    let from = c.args.from in
    let q = c.loop-q.q - 1 in
    let old = rows_of c.loop-q.blocks.items in
    let new = rows_of c.join_at.new.blocks.items in
    let order : from ≤ q = omega (arith, c.loop-q-test.true) in
    record {
      kept = c.join_at.ensures.kept ∙ c.loop-q.invariant.kept;
      front = sym (take-take from q new order) ∙ ap (take from) c.join_at.ensures.front ∙ take-take from q old order ∙ c.loop-q.invariant.front;
    }
