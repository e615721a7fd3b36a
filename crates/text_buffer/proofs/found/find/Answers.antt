-- What stands before the block, and before the paragraph there.
use Rattle.std.proofs.Common.{◌+◌, ◌-◌, length, take, refl, sym, ap, ◌∙◌, arith}
use Rattle.std.specs.List.{concat}
use Rattle.text_buffer.specs.Buffers.{bytes_in}
use Rattle.text_buffer.specs.Pieces.{points_in}
use Rattle.text_buffer.specs.Blocks.{texts_in}
use Rattle.text_buffer.proofs.Sums.{bytes-parts, places-parts, places-few}
use Rattle.text_buffer.proofs.Places.{bytes-row, parts-of, row-get}
use Rattle.text_buffer.proofs.Founds.{found-behind}
use Rattle.text_buffer.proofs.found.find.Goals as goal

pub sum_up-sums-requires : goal.sum_up-sums-requires
sum_up-sums-requires g c =
    let bs = c.args.blocks.now in
    let b = c.block_near-before.result in
    let within = c.block_near-before.ensures.stands.within in
    let row = row-get bs b.block c.index-blocks-before.result within ∙ sym c.deref.ensures.value in
    record { few = omega (arith, bytes-parts c.deref.result.now (c.args.number - b.paragraphs), ap (λ t. bytes_in (concat (points_in t))) row, bytes-row bs b.block within, c.requires.fits.bytes) }

pub overflow_add-result : goal.overflow_add-result
overflow_add-result g c =
    let bs = c.args.blocks.now in
    let b = c.block_near-before.result in
    let s = c.block_near-before.ensures.stands in
    let all = parts-of bs b s in
    let row = row-get bs b.block c.index-blocks-before.result s.within ∙ sym c.deref.ensures.value in
    omega (arith, all.bytes, ap (λ t. bytes_in (concat (points_in t))) row, bytes-parts c.deref.result.now (c.args.number - b.paragraphs), c.sum_up-sums.ensures.bytes, c.requires.fits.bytes)

pub overflow_add-result-2 : goal.overflow_add-result-2
overflow_add-result-2 g c =
    let bs = c.args.blocks.now in
    let b = c.block_near-before.result in
    let s = c.block_near-before.ensures.stands in
    let all = parts-of bs b s in
    let row = row-get bs b.block c.index-blocks-before.result s.within ∙ sym c.deref.ensures.value in
    omega (arith, all.places, ap (λ t. length (concat (points_in t))) row, places-parts c.deref.result.now (c.args.number - b.paragraphs), c.sum_up-sums.ensures.places, places-few (concat (texts_in bs)), c.requires.fits.bytes)

pub returns-clause-found : goal.returns-clause-found
returns-clause-found g c =
    let bs = c.args.blocks.now in
    let b = c.block_near-before.result in
    let at = c.block_near-before.ensures in
    let i = c.args.number - b.paragraphs in
    let row = row-get bs b.block c.index-blocks-before.result at.stands.within ∙ sym c.deref.ensures.value in
    let sums = c.sum_up-sums.ensures in
    found-behind bs b at.stands _ refl (omega (arith, at.reached)) (omega (arith, at.here, at.reached)) (ap (λ n. b.bytes + n) (sums.bytes ∙ sym (ap (λ t. bytes_in (concat (points_in (take i t)))) row)))
    (ap (λ n. b.places + n) (sums.places ∙ sym (ap (λ t. length (concat (points_in (take i t)))) row)))
