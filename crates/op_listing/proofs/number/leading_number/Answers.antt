-- The goals of `leading_number` that are answered by hand.
use Rattle.std.proofs.Common.{◌≡◌, get_or, refl, arith}
use Rattle.std.specs.Char.{digit_value}
use Rattle.std.proofs.lemmas.Str.{digit_value_digit}
use Rattle.op_listing.proofs.Numerals.{more_digits, few_digits}
use Rattle.op_listing.proofs.number.leading_number.Goals as goal

pub overflow_mul-value : goal.overflow_mul-value
overflow_mul-value c =
    let kept = c.loop-count.invariant in
    let end = c.min-end.ensures in
    let test = c.loop-count-test.true in
    let small = few_digits 10 10 c.args.word.now c.loop-count.count c.loop-count.value (omega arith) (omega (arith, end, test)) (omega (arith, end, test)) kept.digits kept.value_is in
    record { fits = omega (arith, small) }

pub overflow_add-value : goal.overflow_add-value
overflow_add-value c =
    let kept = c.loop-count.invariant in
    let end = c.min-end.ensures in
    let test = c.loop-count-test.true in
    let small = few_digits 10 10 c.args.word.now c.loop-count.count c.loop-count.value (omega arith) (omega (arith, end, test)) (omega (arith, end, test)) kept.digits kept.value_is in
    let digit = c.from.ensures in
    let most = c.if-word-count-le57.true in
    record { fits = omega (arith, small, digit, most) }

pub loop-count-preserved : goal.loop-count-preserved
loop-count-preserved c =
    let kept = c.loop-count.invariant in
    let end = c.min-end.ensures in
    let test = c.loop-count-test.true in
    let most = c.if-word-count-le57.true in
    let from = c.from.ensures in
    let byte = get_or c.args.word.now c.loop-count.count 0 in
    let value = digit_value_digit byte (c.if-word-count-ge48.true, most) in
    let digit : c.from.result ≡ digit_value byte = omega (arith, value, from) in
    let more = more_digits 10 c.args.word.now c.loop-count.count c.loop-count.value byte c.from.result (omega (arith, end, test)) kept.digits kept.value_is refl (omega (arith, value, most)) digit in
    record {
      within = omega (arith, test);
      digits = more.0;
      value_is = more.1;
    }
