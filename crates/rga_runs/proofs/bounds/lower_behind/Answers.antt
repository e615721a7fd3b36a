-- The goals of `lower_behind` that are answered by hand.
use Rattle.std.proofs.Common.{◌≡◌, ◌<◌, ◌+◌, ◌*◌, ◌∙◌, [], length, get_or, sym, ap, subst, arith}
use Rattle.std.proofs.lemmas.Grind.{div_ceil_times}
use Rattle.std.specs.Prelude.{set}
use Rattle.rga_runs.specs.Blocks.{none_below}
use Rattle.rga_runs.specs.Bounds.{AreBoundsBut}
use Rattle.rga_runs.specs.BlockRows.{items_of}
use Rattle.rga_runs.proofs.BlockLists.{length-items, items_there}
use Rattle.rga_runs.proofs.Neighbours.{bounds-taken_in, bounds-whole}
use Rattle.rga_runs.proofs.bounds.lower_behind.Goals as goal

pub loop-g-preserved : goal.loop-g-preserved
loop-g-preserved c =
    let bs = c.args.blocks.now in
    let x = get_or bs (32 * c.loop-g.g) c.index-blocks-first.result in
    let low = x.low in
    let many = div_ceil_times (length bs) 32 (omega arith) in
    let there : 32 * c.loop-g.g < length bs = omega (arith, c.loop-g-test.true, c.min-end.ensures, c.div_ceil-groups.ensures, many.1) in
    let here : get_or (items_of bs) (32 * c.loop-g.g) [] ≡ x.stretches.items = items_there bs (32 * c.loop-g.g) c.index-blocks-first.result there in
    let ms = c.loop-g.bounds in
    let within : c.loop-g.g < length ms = omega (arith, c.loop-g-test.true, c.loop-g.auto.bounds, c.min-end.ensures) in
    subst (λ m. AreBoundsBut (c.loop-g.g + 1) (set ms c.loop-g.g m) (items_of bs)) (sym c.lesser.ensures)
    (bounds-taken_in ms (items_of bs) c.loop-g.g x.least c.index-bounds-g.result within c.index-bounds-g.is (ap (none_below x.least) here ∙ low) c.loop-g.invariant)

pub returns : goal.returns
returns c =
    let bs = c.args.blocks.now in
    let many = div_ceil_times (length bs) 32 (omega arith) in
    bounds-whole c.loop-g.g c.loop-g.bounds (items_of bs)
    (λ more. omega (arith, more, c.loop-g-test.false, c.loop-g.auto.bounds, c.min-end.ensures, c.div_ceil-groups.ensures, many.0, length-items bs)) c.loop-g.invariant
