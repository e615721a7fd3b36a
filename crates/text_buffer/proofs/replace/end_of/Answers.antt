-- The last of the paragraphs stands in the block, and what it leaves of that follows.
use Rattle.std.proofs.Common.{◌≡◌, ◌+◌, ◌-◌, [], length, take, drop, get_or, ap, sym, ◌∙◌, arith}
use Rattle.std.proofs.lemmas.List.{length-append}
use Rattle.text_buffer.specs.Blocks.{rows_of, joined, pieces_in}
use Rattle.text_buffer.proofs.Joins.{back-from, joined-more}
use Rattle.text_buffer.proofs.Places.{length-rows, length-points}
use Rattle.text_buffer.proofs.replace.end_of.Goals as goal

pub block_of-last-requires-clause-there : goal.block_of-last-requires-clause-there
block_of-last-requires-clause-there g c = omega (arith, length-points (pieces_in c.args.blocks.now), c.requires.within, c.requires.behind)

pub returns-then-rest-count_in-clause-behind : goal.returns-then-rest-count_in-clause-behind
returns-then-rest-count_in-clause-behind g c =
    let bs = c.args.blocks.now in
    let b = c.block_of-last.result in
    let s = c.block_of-last.ensures.stands in
    let rows = rows_of bs in
    let n = length (joined (take b.block rows)) in
    let size : b.paragraphs ≡ n = s.paragraphs ∙ length-points (joined (take b.block rows)) in
    let at : n + (c.args.to - b.paragraphs) ≡ c.args.to = omega (arith, size, c.block_of-last.ensures.reached, c.requires.behind) in
    sym (back-from rows b.block (c.args.to - b.paragraphs)) ∙ ap (λ k. drop k (pieces_in bs)) at

pub returns-clause-behind : goal.returns-clause-behind
returns-clause-behind g c =
    let bs = c.args.blocks.now in
    let b = c.block_of-last.result in
    let s = c.block_of-last.ensures.stands in
    let rows = rows_of bs in
    let a = joined (take b.block rows) in
    let r = get_or rows b.block [] in
    let size : b.paragraphs ≡ length a = s.paragraphs ∙ length-points a in
    let more = ap length (joined-more rows b.block (omega (arith, length-rows bs, s.within))) ∙ length-append a r in
    let at : length (joined (take (b.block + 1) rows)) + 0 ≡ c.args.to = omega (arith, size, more, c.block_of-last.ensures.here, c.requires.behind, c.count_in.ensures, c.if-rest-count_in.false) in
    sym (back-from rows (b.block + 1) 0) ∙ ap (λ k. drop k (pieces_in bs)) at
