-- The goals of `landing` that are answered by hand.
use Rattle.std.proofs.Common.{◌≡◌, ◌+◌, ◌-◌, ◌∙◌, [], length, take, get_or, sym, ap, arith}
use Rattle.std.proofs.lemmas.List.{get_or_past}
use Rattle.rga_runs.specs.Blocks.{row_of, passed}
use Rattle.rga_runs.specs.BlockRows.{items_of}
use Rattle.rga_runs.proofs.BlockLists.{items_there, length-items}
use Rattle.rga_runs.proofs.skip.landing.Goals as goal

pub returns-then-q-blocks-clause-place : goal.returns-then-q-blocks-clause-place
returns-then-q-blocks-clause-place c =
    let bs = c.args.blocks.now in
    let q = c.args.q in
    let whole : q - 1 + 1 ≡ q = omega (arith, c.requires.some) in
    let none : get_or (items_of bs) q [] ≡ [] = get_or_past (items_of bs) q [] (omega (arith, c.if-q-blocks.true, length-items bs)) in
    c.end_of.ensures.place ∙ omega (arith, ap (λ n. length (row_of (take n (items_of bs)))) whole, ap (passed c.args.id) none)

pub returns-then-at-eq0-clause-place : goal.returns-then-at-eq0-clause-place
returns-then-at-eq0-clause-place c =
    let bs = c.args.blocks.now in
    let q = c.args.q in
    let x = c.index-blocks-q.result in
    let whole : q - 1 + 1 ≡ q = omega (arith, c.requires.some) in
    let read = c.deref.ensures.value in
    let here = items_there bs q x (omega (arith, c.if-q-blocks.false, c.requires.block)) in
    c.end_of-then-at-eq0.ensures.place ∙ omega (arith, ap (λ n. length (row_of (take n (items_of bs)))) whole, ap (passed c.args.id) (here ∙ sym read), c.greater_in_front-at.ensures.count, c.if-at-eq0.true)
