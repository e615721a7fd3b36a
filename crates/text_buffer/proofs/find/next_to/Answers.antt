-- What stands before the block, it and what stands behind it are all.
use Rattle.std.proofs.Common.{refl, length, ap, arith}
use Rattle.std.specs.List.{concat}
use Rattle.text_buffer.specs.Buffers.{bytes_in}
use Rattle.text_buffer.specs.Pieces.{points_in}
use Rattle.text_buffer.specs.Blocks.{texts_in}
use Rattle.text_buffer.proofs.Sums.{places-few}
use Rattle.text_buffer.proofs.Places.{parts-of, row-at, stands-next}
use Rattle.text_buffer.proofs.find.next_to.Goals as goal

pub overflow_add-result-2 : goal.overflow_add-result-2
overflow_add-result-2 g c =
    let bs = c.args.blocks.now in
    let s = c.requires.stands in
    let x = c.index-blocks-before.result in
    let all = parts-of bs c.args.before s in
    omega (arith, all.paragraphs, ap length (row-at bs c.args.before.block x s.within c.index-blocks-before.is), c.len.ensures, x.pieces.ok, c.requires.fits.paragraphs)

pub overflow_add-result-3 : goal.overflow_add-result-3
overflow_add-result-3 g c =
    let bs = c.args.blocks.now in
    let s = c.requires.stands in
    let x = c.index-blocks-before.result in
    let all = parts-of bs c.args.before s in
    let row = row-at bs c.args.before.block x s.within c.index-blocks-before.is in
    omega (arith, all.bytes, ap (λ t. bytes_in (concat (points_in t))) row, x.bytes_is, c.requires.fits.bytes)

pub overflow_add-result-4 : goal.overflow_add-result-4
overflow_add-result-4 g c =
    let bs = c.args.blocks.now in
    let s = c.requires.stands in
    let x = c.index-blocks-before.result in
    let all = parts-of bs c.args.before s in
    let row = row-at bs c.args.before.block x s.within c.index-blocks-before.is in
    omega (arith, all.places, ap (λ t. length (concat (points_in t))) row, x.places_is, places-few (concat (texts_in bs)), c.requires.fits.bytes)

pub returns-clause-stands : goal.returns-clause-stands
returns-clause-stands g c =
    let bs = c.args.blocks.now in
    let s = c.requires.stands in
    let x = c.index-blocks-before.result in
    let row = row-at bs c.args.before.block x s.within c.index-blocks-before.is in
    stands-next bs c.args.before s _ refl (omega (arith, ap length row, c.len.ensures, x.pieces.ok)) (omega (arith, x.bytes_is, ap (λ t. bytes_in (concat (points_in t))) row))
    (omega (arith, x.places_is, ap (λ t. length (concat (points_in t))) row)) c.requires.more

pub returns-clause-paragraphs : goal.returns-clause-paragraphs
returns-clause-paragraphs g c =
    let x = c.index-blocks-before.result in
    omega (arith, ap length (row-at c.args.blocks.now c.args.before.block x c.requires.stands.within c.index-blocks-before.is), c.len.ensures, x.pieces.ok)

pub returns-clause-places : goal.returns-clause-places
returns-clause-places g c =
    let x = c.index-blocks-before.result in
    let row = row-at c.args.blocks.now c.args.before.block x c.requires.stands.within c.index-blocks-before.is in
    omega (arith, x.places_is, ap (λ t. length (concat (points_in t))) row)
