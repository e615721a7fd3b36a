-- The goals of `read_number` that are answered by hand.
use Rattle.std.proofs.Common.{◌≡◌, ◌+◌, ◌*◌, ℕ, Some, take, subst, sym, ap, ◌∙◌, arith}
use Rattle.std.proofs.lemmas.List.{take_all}
use Rattle.std.specs.Str.Parse.{AllDigits, digits_value}
use Rattle.op_listing.proofs.Numerals.{more_digits, no_digit, too_large, number_written, no_number}
use Rattle.op_listing.proofs.number.read_number.Goals as goal

pub returns-in_err-digit : goal.returns-in_err-digit
returns-in_err-digit c =
    c.from_residual.ensures
    ∙ sym (no_number c.args.base c.args.least c.args.most c.args.word.now (no_digit c.args.base c.args.word.now c.loop-byte.byte-index c.from.result c.loop-byte-test.true c.from.ensures c.in_err-digit.ensures.value) c.if-word-least.false c.if-word-most.false)

pub returns-in_err-checked_mul : goal.returns-in_err-checked_mul
returns-in_err-checked_mul c =
    let kept = c.loop-byte.invariant in
    let digit = c.in_ok-digit.ensures.value in
    let more = more_digits c.args.base c.args.word.now c.loop-byte.byte-index c.loop-byte.value c.from.result c.in_ok-digit.digit c.loop-byte-test.true kept.digits kept.value_is c.from.ensures digit.0 digit.1 in
    let large = c.in_err-checked_mul.ensures in
    c.from_residual-in_err-checked_mul.ensures
    ∙ sym (no_number c.args.base c.args.least c.args.most c.args.word.now
    (too_large c.args.base c.args.word.now c.loop-byte.byte-index c.loop-byte.value c.in_ok-digit.digit (omega (arith, c.requires.low)) more.1
    (λ small. large (let product = c.loop-byte.value * c.args.base in omega (arith, small)))) c.if-word-least.false c.if-word-most.false)

pub returns-in_err-value : goal.returns-in_err-value
returns-in_err-value c =
    let kept = c.loop-byte.invariant in
    let digit = c.in_ok-digit.ensures.value in
    let more = more_digits c.args.base c.args.word.now c.loop-byte.byte-index c.loop-byte.value c.from.result c.in_ok-digit.digit c.loop-byte-test.true kept.digits kept.value_is c.from.ensures digit.0 digit.1 in
    let product : c.in_ok-checked_mul.field-0 ≡ c.loop-byte.value * c.args.base = c.in_ok-checked_mul.ensures.1 in
    let large = c.in_err-value.ensures in
    c.from_residual-in_err-value.ensures
    ∙ sym (no_number c.args.base c.args.least c.args.most c.args.word.now
    (too_large c.args.base c.args.word.now c.loop-byte.byte-index c.loop-byte.value c.in_ok-digit.digit (omega (arith, c.requires.low)) more.1
    (λ small. large (omega (arith, small, product)))) c.if-word-least.false c.if-word-most.false)

pub loop-byte-preserved : goal.loop-byte-preserved
loop-byte-preserved c =
    let kept = c.loop-byte.invariant in
    let digit = c.in_ok-digit.ensures.value in
    let more = more_digits c.args.base c.args.word.now c.loop-byte.byte-index c.loop-byte.value c.from.result c.in_ok-digit.digit c.loop-byte-test.true kept.digits kept.value_is c.from.ensures digit.0 digit.1 in
    let product : c.in_ok-checked_mul.field-0 ≡ c.loop-byte.value * c.args.base = c.in_ok-checked_mul.ensures.1 in
    let sum : c.in_ok-value.value ≡ c.in_ok-checked_mul.field-0 + c.in_ok-digit.digit = c.in_ok-value.ensures.1 in
    record {
      digits = more.0;
      value_is = sum ∙ ap (λ (p : ℕ). p + c.in_ok-digit.digit) product ∙ more.1;
      small = let fits = c.in_ok-value.ensures.0 in omega (arith, sum, fits);
    }

pub returns : goal.returns
returns c =
    let kept = c.loop-byte.invariant in
    let word = c.args.word.now in
    let whole : take c.loop-byte.byte-index word ≡ word = take_all c.loop-byte.byte-index word c.loop-byte-test.false in
    let value : c.loop-byte.value ≡ digits_value c.args.base word = kept.value_is ∙ ap (digits_value c.args.base) whole in
    ap Some value ∙ sym (number_written c.args.base c.args.least c.args.most word (subst (AllDigits c.args.base) whole kept.digits) (let small = kept.small in omega (arith, value, small)) c.if-word-least.false c.if-word-most.false)
