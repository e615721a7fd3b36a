-- No block but the last is passed whole where the place is its end.
use Rattle.std.proofs.Common.{length, ap, arith}
use Rattle.std.specs.List.{concat}
use Rattle.text_buffer.specs.Pieces.{points_in}
use Rattle.text_buffer.specs.Blocks.{joined, texts_in}
use Rattle.text_buffer.proofs.Sums.{places-few}
use Rattle.text_buffer.proofs.Places.{parts-of}
use Rattle.text_buffer.proofs.find.block_at.Goals as goal

pub overflow_add-before-in-loop-before : goal.overflow_add-before-in-loop-before
overflow_add-before-in-loop-before g c =
    let bs = c.args.blocks.now in
    let all = parts-of bs c.loop-before.before c.loop-before.invariant.stands in
    omega (arith, all.places, c.places_in.ensures, places-few (concat (texts_in bs)), c.requires.fits.bytes)

pub returns-after-loop-before-clause-here : goal.returns-after-loop-before-clause-here
returns-after-loop-before-clause-here g c =
    let all = parts-of c.args.blocks.now c.loop-before.before c.loop-before.invariant.stands in
    let none = ap (λ t. length (concat (points_in (joined t)))) (all.last (omega (arith, c.loop-before-test.false))) in
    omega (arith, all.places, none, c.requires.within)
