-- The paragraphs have no more bytes than those that were there and those that came.
use Rattle.std.proofs.Common.{◌-◌, ◌++◌, take, drop, sym, ap, ◌∙◌, arith}
use Rattle.std.proofs.lemmas.List.{take-take}
use Rattle.std.specs.List.{concat}
use Rattle.text_buffer.specs.Buffers.{bytes_in}
use Rattle.text_buffer.specs.Pieces.{points_in}
use Rattle.text_buffer.specs.Blocks.{rows_of, pieces_in}
use Rattle.text_buffer.proofs.Sums.{bytes-both, bytes-between}
use Rattle.text_buffer.proofs.replace.replace.Goals as goal

pub join_sparse-requires : goal.join_sparse-requires
join_sparse-requires g c =
    let old = pieces_in c.args.blocks.now.items in
    let put = c.args.pieces.items in
    let back = drop c.args.to old in
    let all = ap (λ ps. bytes_in (concat (points_in ps))) c.in_ok-replace_apart.ensures.ok in
    let order = bytes-between old c.args.from c.args.to (omega (arith, c.requires.order)) in
    omega (arith, all, bytes-both (take c.args.from old) (put ++ back), bytes-both put back, order, c.requires.few)

pub returns-in_err-replace_apart-clause-front : goal.returns-in_err-replace_apart-clause-front
returns-in_err-replace_apart-clause-front g c =
    let b = c.args.before.block in
    let old = rows_of c.args.blocks.now.items in
    let new = rows_of c.replace_apart.new.blocks.items in
    sym (take-take (b - 1) b new (omega arith)) ∙ ap (take (b - 1)) c.replace_apart.ensures.front ∙ take-take (b - 1) b old (omega arith)

pub returns-clause-front : goal.returns-clause-front
returns-clause-front g c =
    let b = c.args.before.block in
    let old = rows_of c.args.blocks.now.items in
    let mid = rows_of c.replace_apart.new.blocks.items in
    ap (λ n. take n (rows_of c.join_sparse.new.blocks.items)) (sym c.saturating_sub.ensures) ∙ c.join_sparse.ensures.front ∙ ap (λ n. take n mid) c.saturating_sub.ensures
    ∙ sym (take-take (b - 1) b mid (omega arith)) ∙ ap (take (b - 1)) c.replace_apart.ensures.front ∙ take-take (b - 1) b old (omega arith)
