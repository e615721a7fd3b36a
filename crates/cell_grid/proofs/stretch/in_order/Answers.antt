-- Each stretch in its turn.
use Rattle.std.proofs.Common.{◌++◌, map, take, get_or, flat_map, slice_range, reverse, cond, refl, sym, ap, ◌∙◌, arith}
use Rattle.std.proofs.lemmas.List.{map-append}
use Rattle.reorder.specs.Pieces.{piece_order}
use Rattle.reorder.specs.VisualList.{is_odd}
use Rattle.cell_grid.specs.Pieces.{piece_at}
use Rattle.cell_grid.specs.Stretches.{level_piece, stretch_at}
use Rattle.cell_grid.proofs.Steps.{flat_map-take_next, take-whole}
use Rattle.cell_grid.proofs.Stretches.{no_stretch, stretch-order}
use Rattle.cell_grid.proofs.stretch.in_order.Goals as goal

pub bounds-stretches-number : goal.bounds-stretches-number
bounds-stretches-number c = c.requires.numbers c.loop-number.number-index 0 c.loop-number-test.true

pub slice_bounds-own-start : goal.slice_bounds-own-start
slice_bounds-own-start c =
    let k = get_or c.args.numbers.now c.loop-number.number-index 0 in
    let some = (c.requires.stretches.among k no_stretch (c.requires.numbers c.loop-number.number-index 0 c.loop-number-test.true)).some in
    omega arith

pub slice_bounds-own-count : goal.slice_bounds-own-count
slice_bounds-own-count c =
    let k = get_or c.args.numbers.now c.loop-number.number-index 0 in
    let some = (c.requires.stretches.among k no_stretch (c.requires.numbers c.loop-number.number-index 0 c.loop-number-test.true)).some in
    omega arith

pub slice_bounds-own-end : goal.slice_bounds-own-end
slice_bounds-own-end c =
    let k = get_or c.args.numbers.now c.loop-number.number-index 0 in
    let within = (c.requires.stretches.among k no_stretch (c.requires.numbers c.loop-number.number-index 0 c.loop-number-test.true)).within in
    omega arith

pub loop-number-init : goal.loop-number-init
loop-number-init c = c.in_ok-runs.ensures.items

pub loop-number-preserved : goal.loop-number-preserved
loop-number-preserved c =
    let pieces = c.args.pieces.now in
    let stretches = c.args.stretches.now in
    let items = c.args.numbers.now in
    let i = c.loop-number.number-index in
    let k = get_or c.args.numbers.now c.loop-number.number-index 0 in
    let order = piece_order (map level_piece c.args.stretches.now) in
    let s = stretch_at c.args.stretches.now (get_or c.args.numbers.now c.loop-number.number-index 0) in
    let own = slice_range c.args.pieces.now s.first s.end in
    let lt = c.requires.numbers c.loop-number.number-index 0 c.loop-number-test.true in
    c.in_ok-append.ensures
    ∙ ap (λ l. l ++ cond (is_odd (stretch_at stretches k).level) (reverse own) own) c.loop-number.invariant
    ∙ ap (λ l. map (piece_at pieces) (flat_map order (take i items)) ++ l) (stretch-order pieces stretches c.requires.stretches k (stretch_at stretches k) own lt refl refl)
    ∙ sym (map-append (piece_at pieces) (flat_map order (take i items)) (order k))
    ∙ sym (ap (map (piece_at pieces)) (flat_map-take_next order items i k 0 c.loop-number-test.true refl))

pub returns : goal.returns
returns c =
    let order = piece_order (map level_piece c.args.stretches.now) in
    c.loop-number.invariant
    ∙ ap (λ l. map (piece_at c.args.pieces.now) (flat_map order l)) (take-whole c.args.numbers.now c.loop-number.number-index c.loop-number-test.false)
