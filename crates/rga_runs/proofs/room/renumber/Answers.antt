-- The goals of `renumber` that are answered by hand.
use Rattle.std.proofs.Common.{◌≡◌, ◌<◌, ◌∙◌, get_or, length, sym, ap, arith, rules}
use Rattle.std.specs.Prelude.{slice_get, set}
use Rattle.rga_runs.specs.BlockRows.{numbers_of}
use Rattle.rga_runs.proofs.BlockLists.{number_there}
use Rattle.rga_runs.proofs.Numbers.{one_more_place}
use Rattle.rga_runs.proofs.room.renumber.Goals as goal

pub bounds-places-blocks : goal.bounds-places-blocks
bounds-places-blocks c =
    let there = number_there c.args.blocks.now c.loop-p.p c.index-blocks-p.result c.loop-p-test.true in
    let few = c.requires.known c.loop-p.p c.loop-p-test.true in
    omega (arith, there, few, c.loop-p.auto.places)

pub offset_bounds-places-blocks : goal.offset_bounds-places-blocks
offset_bounds-places-blocks c =
    let there = number_there c.args.blocks.now c.loop-p.p c.index-blocks-p.result c.loop-p-test.true in
    let few = c.requires.known c.loop-p.p c.loop-p-test.true in
    let less : (get_or c.args.blocks.now c.loop-p.p c.index-blocks-p.result).number < length c.loop-p.places = omega (arith, there, few, c.loop-p.auto.places) in
    search rules

pub loop-p-preserved : goal.loop-p-preserved
loop-p-preserved c = λ k few.
    let bs = c.args.blocks.now in
    let b = get_or bs c.loop-p.p c.index-blocks-p.result in
    let there : get_or (numbers_of bs) c.loop-p.p 0 ≡ b.number = number_there bs c.loop-p.p c.index-blocks-p.result c.loop-p-test.true in
    let known = c.requires.known c.loop-p.p c.loop-p-test.true in
    let less : get_or (numbers_of bs) c.loop-p.p 0 < length c.loop-p.places = omega (arith, known, c.loop-p.auto.places) in
    let more : k < length bs = omega (arith, few, c.loop-p-test.true) in
    ap (λ n. slice_get (set c.loop-p.places n c.loop-p.p) (get_or (numbers_of bs) k 0)) (sym there)
    ∙ one_more_place (numbers_of bs) c.loop-p.places c.loop-p.p k less (c.requires.apart c.loop-p.p k c.loop-p-test.true more) few (c.loop-p.invariant k)
