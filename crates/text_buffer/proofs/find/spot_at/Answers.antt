-- The spot in its block is the spot among all.
use Rattle.std.proofs.Common.{length, get_or, sym, ap, ◌∙◌, arith, refl}
use Rattle.std.specs.List.{concat}
use Rattle.text_buffer.specs.Buffers.{bytes_in}
use Rattle.text_buffer.specs.Pieces.{points_in}
use Rattle.text_buffer.proofs.Sums.{bytes-take}
use Rattle.text_buffer.proofs.Places.{row-get, parts-of, length-points, bytes-row}
use Rattle.text_buffer.proofs.Spots.{spot-among}
use Rattle.text_buffer.proofs.find.spot_at.Goals as goal

pub spot_in-here-requires-clause-some : goal.spot_in-here-requires-clause-some
spot_in-here-requires-clause-some g c =
    let x = get_or c.args.blocks.now c.block_at-before.result.block c.index-blocks-before.result in
    omega (arith, ap length c.deref.ensures.value, x.some, x.pieces.ok)

pub spot_in-here-requires-clause-within : goal.spot_in-here-requires-clause-within
spot_in-here-requires-clause-within g c =
    let bs = c.args.blocks.now in
    let b = c.block_at-before.result in
    let x = c.index-blocks-before.result in
    let row = row-get bs b.block x c.block_at-before.ensures.stands.within ∙ sym c.deref.ensures.value in
    omega (arith, ap (λ t. length (concat (points_in t))) row, c.block_at-before.ensures.here, c.block_at-before.ensures.reached)

pub spot_in-here-requires-clause-few : goal.spot_in-here-requires-clause-few
spot_in-here-requires-clause-few g c =
    let bs = c.args.blocks.now in
    let b = c.block_at-before.result in
    let x = c.index-blocks-before.result in
    let row = row-get bs b.block x c.block_at-before.ensures.stands.within ∙ sym c.deref.ensures.value in
    omega (arith, ap (λ t. bytes_in (concat (points_in t))) row, bytes-row bs b.block c.block_at-before.ensures.stands.within, c.requires.fits.bytes)

pub overflow_add-spot : goal.overflow_add-spot
overflow_add-spot g c =
    let bs = c.args.blocks.now in
    let b = c.block_at-before.result in
    let x = c.index-blocks-before.result in
    let row = row-get bs b.block x c.block_at-before.ensures.stands.within ∙ sym c.deref.ensures.value in
    let all = parts-of bs b c.block_at-before.ensures.stands in
    omega (arith, all.paragraphs, ap length row, length-points c.deref.result.now, c.spot_in-here.ensures.spot.there, c.requires.fits.paragraphs)

pub overflow_add-spot-2 : goal.overflow_add-spot-2
overflow_add-spot-2 g c =
    let bs = c.args.blocks.now in
    let b = c.block_at-before.result in
    let x = c.index-blocks-before.result in
    let row = row-get bs b.block x c.block_at-before.ensures.stands.within ∙ sym c.deref.ensures.value in
    let all = parts-of bs b c.block_at-before.ensures.stands in
    omega (arith, all.bytes, ap (λ t. bytes_in (concat (points_in t))) row, c.spot_in-here.ensures.spot.bytes, bytes-take (points_in c.deref.result.now) c.spot_in-here.result.number, c.requires.fits.bytes)

pub returns-clause-here : goal.returns-clause-here
returns-clause-here g c =
    let b = c.block_at-before.result in
    let x = c.index-blocks-before.result in
    let row = row-get c.args.blocks.now b.block x c.block_at-before.ensures.stands.within ∙ sym c.deref.ensures.value in
    omega (arith, ap length row, length-points c.deref.result.now, c.spot_in-here.ensures.spot.there)

pub returns-clause-spot : goal.returns-clause-spot
returns-clause-spot g c =
    let bs = c.args.blocks.now in
    let b = c.block_at-before.result in
    let at = c.block_at-before.ensures in
    let x = c.index-blocks-before.result in
    let row = row-get bs b.block x at.stands.within ∙ sym c.deref.ensures.value in
    let places = ap (λ t. length (concat (points_in t))) row in
    spot-among bs b at.stands c.deref.result.now row c.args.place at.reached c.spot_in-here.result c.spot_in-here.ensures.spot (λ more. let near = at.inside more in omega (arith, near, places)) c.spot_in-here.ensures.inside
    _ refl refl refl
