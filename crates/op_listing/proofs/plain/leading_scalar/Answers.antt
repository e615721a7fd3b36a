-- The goals of `leading_scalar` that are answered by hand.
use Rattle.std.proofs.Common.{arith}
use Rattle.op_listing.proofs.Numerals.{more_digits, few_digits}
use Rattle.op_listing.proofs.PlainLines.{slice_from, scalar_taken}
use Rattle.op_listing.proofs.plain.leading_scalar.Goals as goal

pub overflow_mul-code : goal.overflow_mul-code
overflow_mul-code c =
    let kept = c.loop-count.invariant in
    let test = c.loop-count-test.true in
    let small = few_digits 16 5 c.args.bytes.now c.loop-count.count c.loop-count.code (omega arith) (omega (arith, c.requires, test)) (omega (arith, test)) kept.digits kept.code_is in
    record { fits = omega (arith, small) }

pub overflow_add-code : goal.overflow_add-code
overflow_add-code c =
    let kept = c.loop-count.invariant in
    let test = c.loop-count-test.true in
    let small = few_digits 16 5 c.args.bytes.now c.loop-count.count c.loop-count.code (omega arith) (omega (arith, c.requires, test)) (omega (arith, test)) kept.digits kept.code_is in
    let digit = c.in-Some.ensures.value in
    record { fits = omega (arith, small, digit.0, digit.1) }

pub loop-count-preserved : goal.loop-count-preserved
loop-count-preserved c =
    let kept = c.loop-count.invariant in
    let test = c.loop-count-test.true in
    let digit = c.in-Some.ensures.value in
    let more = more_digits 16 c.args.bytes.now c.loop-count.count c.loop-count.code c.from.result c.in-Some.digit (omega (arith, c.requires, test)) kept.digits kept.code_is c.from.ensures digit.0 digit.1 in
    record {
      within = omega (arith, test);
      digits = more.0;
      code_is = more.1;
    }

pub returns : goal.returns
returns c =
    let bytes = c.args.bytes.now in
    let read = c.loop-count.invariant in
    scalar_taken bytes _ c.loop-count.count _ (omega (arith, read.within, c.requires)) (let few = c.if-count-lt-FEWEST_DIGITS.false in omega (arith, few)) read.within read.digits read.code_is (slice_from c.loop-count.count bytes)
