-- The sums with the paragraph.
use Rattle.std.proofs.Common.{◌+◌, length, take, ap, arith}
use Rattle.std.specs.List.{concat}
use Rattle.text_buffer.specs.Buffers.{bytes_in}
use Rattle.text_buffer.specs.Blocks.{texts_in}
use Rattle.text_buffer.proofs.Sums.{bytes-piece, bytes-take, places-few}
use Rattle.text_buffer.proofs.Texts.{bytes-more-at, places-more-at}
use Rattle.text_buffer.proofs.Founds.{found-there}
use Rattle.text_buffer.proofs.found.on_to.Goals as goal

pub overflow_add-result : goal.overflow_add-result
overflow_add-result g c =
    let f = c.args.found in
    let s = c.requires.found in
    omega (arith, found-there c.args.blocks.now f.block f.index f.number s.block s.inside s.number, c.requires.fits.paragraphs)

pub overflow_add-result-2 : goal.overflow_add-result-2
overflow_add-result-2 g c =
    let f = c.args.found in
    let ps = texts_in c.args.blocks.now in
    let s = c.requires.found in
    let there = found-there c.args.blocks.now f.block f.index f.number s.block s.inside s.number in
    let p = c.piece_at-piece.result.now in
    let e = c.piece_at-piece.ensures.points in
    omega (arith, s.bytes, bytes-more-at ps f.number there, ap bytes_in e, bytes-piece p, ap length c.as_str.ensures.value, bytes-take ps (f.number + 1), c.requires.fits.bytes)

pub overflow_add-result-3 : goal.overflow_add-result-3
overflow_add-result-3 g c =
    let f = c.args.found in
    let ps = texts_in c.args.blocks.now in
    let s = c.requires.found in
    let there = found-there c.args.blocks.now f.block f.index f.number s.block s.inside s.number in
    let p = c.piece_at-piece.result.now in
    let e = c.piece_at-piece.ensures.points in
    omega (arith, s.places, places-more-at ps f.number there, ap length e, p.counted, places-few (concat (take (f.number + 1) ps)), bytes-take ps (f.number + 1), c.requires.fits.bytes)

pub returns-clause-found : goal.returns-clause-found
returns-clause-found g c =
    let f = c.args.found in
    let ps = texts_in c.args.blocks.now in
    let s = c.requires.found in
    let there = found-there c.args.blocks.now f.block f.index f.number s.block s.inside s.number in
    let p = c.piece_at-piece.result.now in
    let e = c.piece_at-piece.ensures.points in
    record {
      block = c.requires.block;
      inside = c.requires.inside;
      number = c.requires.number;
      bytes = omega (arith, s.bytes, bytes-more-at ps f.number there, ap bytes_in e, bytes-piece p, ap length c.as_str.ensures.value);
      places = omega (arith, s.places, places-more-at ps f.number there, ap length e, p.counted);
    }
