-- The sums without the paragraph.
use Rattle.std.proofs.Common.{◌≡◌, ◌+◌, ◌-◌, length, take, ap, arith}
use Rattle.std.specs.List.{concat}
use Rattle.text_buffer.specs.Buffers.{bytes_in}
use Rattle.text_buffer.specs.Blocks.{texts_in, rows_of, joined}
use Rattle.text_buffer.proofs.Sums.{bytes-piece}
use Rattle.text_buffer.proofs.Texts.{bytes-more-at, places-more-at}
use Rattle.text_buffer.proofs.Founds.{found-there, found-points}
use Rattle.text_buffer.proofs.found.back_to.Goals as goal

pub overflow_sub-result-2 : goal.overflow_sub-result-2
overflow_sub-result-2 g c =
    let bs = c.args.blocks.now in
    let ps = texts_in bs in
    let f = c.args.found in
    let s = c.requires.found in
    let n = f.number - 1 in
    let number : n ≡ length (joined (take c.args.block (rows_of bs))) + c.args.index = omega (arith, c.requires.number) in
    let there = found-there bs c.args.block c.args.index n c.requires.block c.requires.inside number in
    let p = c.index-piece.result.now in
    let e = found-points bs c.args.block c.args.index n c.requires.block c.requires.inside number c.index-blocks-block.result p c.index-piece.ensures in
    let next : n + 1 ≡ f.number = omega (arith, c.requires.number) in
    let bytes = ap (λ k. bytes_in (concat (take k ps))) next in
    omega (arith, s.bytes, bytes, bytes-more-at ps n there, ap bytes_in e, bytes-piece p, ap length c.as_str.ensures.value)

pub overflow_sub-result-3 : goal.overflow_sub-result-3
overflow_sub-result-3 g c =
    let bs = c.args.blocks.now in
    let ps = texts_in bs in
    let f = c.args.found in
    let s = c.requires.found in
    let n = f.number - 1 in
    let number : n ≡ length (joined (take c.args.block (rows_of bs))) + c.args.index = omega (arith, c.requires.number) in
    let there = found-there bs c.args.block c.args.index n c.requires.block c.requires.inside number in
    let p = c.index-piece.result.now in
    let e = found-points bs c.args.block c.args.index n c.requires.block c.requires.inside number c.index-blocks-block.result p c.index-piece.ensures in
    let next : n + 1 ≡ f.number = omega (arith, c.requires.number) in
    let places = ap (λ k. length (concat (take k ps))) next in
    omega (arith, s.places, places, places-more-at ps n there, ap length e, p.counted)

pub returns-clause-found : goal.returns-clause-found
returns-clause-found g c =
    let bs = c.args.blocks.now in
    let ps = texts_in bs in
    let f = c.args.found in
    let s = c.requires.found in
    let n = f.number - 1 in
    let number : n ≡ length (joined (take c.args.block (rows_of bs))) + c.args.index = omega (arith, c.requires.number) in
    let there = found-there bs c.args.block c.args.index n c.requires.block c.requires.inside number in
    let p = c.index-piece.result.now in
    let e = found-points bs c.args.block c.args.index n c.requires.block c.requires.inside number c.index-blocks-block.result p c.index-piece.ensures in
    let next : n + 1 ≡ f.number = omega (arith, c.requires.number) in
    let bytes = ap (λ k. bytes_in (concat (take k ps))) next in
    let places = ap (λ k. length (concat (take k ps))) next in
    record {
      block = c.requires.block;
      inside = c.requires.inside;
      number = number;
      bytes = omega (arith, s.bytes, bytes, bytes-more-at ps n there, ap bytes_in e, bytes-piece p, ap length c.as_str.ensures.value);
      places = omega (arith, s.places, places, places-more-at ps n there, ap length e, p.counted);
    }
