-- Each paragraph that was passed is whole before the place.
use Rattle.std.proofs.Common.{◌+◌, ◌<◌, length, arith}
use Rattle.text_buffer.specs.Pieces.{points_in}
use Rattle.text_buffer.proofs.Places.{length-points}
use Rattle.text_buffer.proofs.Sums.{bytes-take}
use Rattle.text_buffer.proofs.Texts.{places-last, places-more-at, bytes-more-at}
use Rattle.text_buffer.proofs.find.spot_in.Goals as goal

pub overflow_add-bytes : goal.overflow_add-bytes
overflow_add-bytes g c =
    let ps = points_in c.args.pieces.now in
    let n = c.loop-number.number in
    let more = bytes-more-at ps n (omega (arith, length-points c.args.pieces.now, c.loop-number.invariant.there)) in
    omega (arith, more, c.loop-number.invariant.bytes, c.bytes_of-bytes.ensures, bytes-take ps (n + 1), c.requires.few)

pub loop-number-preserved : goal.loop-number-preserved
loop-number-preserved g c =
    let ps = points_in c.args.pieces.now in
    let n = c.loop-number.number in
    let there : n < length ps = omega (arith, length-points c.args.pieces.now, c.loop-number.invariant.there) in
    let more = places-more-at ps n there in
    record {
      there = omega (arith, c.loop-number-test.true);
      bytes = omega (arith, bytes-more-at ps n there, c.loop-number.invariant.bytes, c.bytes_of-bytes.ensures);
      passed = omega (arith, more, c.loop-number.invariant.passed);
    }

pub returns-after-loop-number-clause-spot : goal.returns-after-loop-number-clause-spot
returns-after-loop-number-clause-spot g c =
    let ps = points_in c.args.pieces.now in
    let n = c.loop-number.number in
    let last = places-last ps n (omega (arith, length-points c.args.pieces.now, c.loop-number.invariant.there)) (omega (arith, length-points c.args.pieces.now, c.loop-number-test.false)) in
    record {
      there = omega (arith, length-points c.args.pieces.now, c.loop-number.invariant.there);
      bytes = c.loop-number.invariant.bytes;
      place_is = c.loop-number.invariant.passed;
      within = omega (arith, last, c.loop-number.invariant.passed, c.requires.within);
      inside = λ more. absurd (omega (arith, length-points c.args.pieces.now, c.loop-number-test.false, more));
    }

pub returns-after-loop-number-clause-inside : goal.returns-after-loop-number-clause-inside
returns-after-loop-number-clause-inside g c = λ less.
    let ps = points_in c.args.pieces.now in
    let n = c.loop-number.number in
    let last = places-last ps n (omega (arith, length-points c.args.pieces.now, c.loop-number.invariant.there)) (omega (arith, length-points c.args.pieces.now, c.loop-number-test.false)) in
    omega (arith, last, c.loop-number.invariant.passed, less)
