-- What stands before a block stands before the one in front of it or in that.
use Rattle.std.proofs.Common.{◌-◌, refl, length, ap, arith}
use Rattle.std.specs.List.{concat}
use Rattle.text_buffer.specs.Buffers.{bytes_in}
use Rattle.text_buffer.specs.Pieces.{points_in}
use Rattle.text_buffer.proofs.Places.{row-at, previous-of, stands-previous}
use Rattle.text_buffer.proofs.find.previous_to.Goals as goal

pub overflow_sub-result : goal.overflow_sub-result
overflow_sub-result g c =
    let bs = c.args.blocks.now in
    let s = c.requires.stands in
    let x = c.index-blocks-block.result in
    let row = row-at bs (c.args.before.block - 1) x (omega (arith, s.within)) c.index-blocks-block.is in
    omega (arith, (previous-of bs c.args.before s c.requires.some).paragraphs, ap length row, c.len.ensures, x.pieces.ok)

pub overflow_sub-result-2 : goal.overflow_sub-result-2
overflow_sub-result-2 g c =
    let bs = c.args.blocks.now in
    let s = c.requires.stands in
    let x = c.index-blocks-block.result in
    let row = row-at bs (c.args.before.block - 1) x (omega (arith, s.within)) c.index-blocks-block.is in
    omega (arith, (previous-of bs c.args.before s c.requires.some).bytes, ap (λ t. bytes_in (concat (points_in t))) row, x.bytes_is)

pub overflow_sub-result-3 : goal.overflow_sub-result-3
overflow_sub-result-3 g c =
    let bs = c.args.blocks.now in
    let s = c.requires.stands in
    let x = c.index-blocks-block.result in
    let row = row-at bs (c.args.before.block - 1) x (omega (arith, s.within)) c.index-blocks-block.is in
    omega (arith, (previous-of bs c.args.before s c.requires.some).places, ap (λ t. length (concat (points_in t))) row, x.places_is)

pub returns-clause-stands : goal.returns-clause-stands
returns-clause-stands g c =
    let bs = c.args.blocks.now in
    let b = c.args.before in
    let s = c.requires.stands in
    let x = c.index-blocks-block.result in
    let row = row-at bs (b.block - 1) x (omega (arith, s.within)) c.index-blocks-block.is in
    let has = previous-of bs b s c.requires.some in
    stands-previous bs b s c.requires.some _ refl (omega (arith, has.paragraphs, ap length row, c.len.ensures, x.pieces.ok))
    (omega (arith, has.bytes, ap (λ t. bytes_in (concat (points_in t))) row, x.bytes_is))
    (omega (arith, has.places, ap (λ t. length (concat (points_in t))) row, x.places_is))
