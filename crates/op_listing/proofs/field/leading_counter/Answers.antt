-- The goals of `leading_counter` that are answered by hand.
use Rattle.std.proofs.Common.{◌<◌, length, inl, inr, sym, ◌∙◌, arith}
use Rattle.std.proofs.lemmas.Bool.{cases_lt}
use Rattle.op_listing.proofs.Leading.{point_at, only_digits, other_byte, wrong_count, too_large_counter, counter_found, not_fitted, fitted, none_matches}
use Rattle.op_listing.proofs.field.leading_counter.Goals.{then-point-word-via-then-point-word, then-point-word-via-else-point-word+then-word-point-ne46}
use Rattle.op_listing.proofs.field.leading_counter.Goals.{then-point-eq0-via-then-point-eq0, then-point-eq0-via-else-point-eq0+then-point-gt-DECIMAL_DIGITS}
use Rattle.op_listing.proofs.field.leading_counter.Goals as goal

pub returns-then-point-word : goal.returns-then-point-word
returns-then-point-word c =
    let word = c.args.word.now in
    let count = c.leading_number-counter.result.1 in
    let read = c.leading_number-counter.ensures in
    elim c.then-point-word.branch [
      | then-point-word-via-then-point-word w ↦ only_digits word count read.within.0 read.digits w.if-point-word.true
      | then-point-word-via-else-point-word+then-word-point-ne46 w ↦
          let other = w.if-point-word.false in
          other_byte word count read.within.0 read.digits (omega (arith, other, read.within.0)) (λ few. read.stop few (omega (arith, other, read.within.0))) w.if-word-point-ne46.true
    ]

pub returns-then-point-eq0 : goal.returns-then-point-eq0
returns-then-point-eq0 c =
    let word = c.args.word.now in
    let count = c.leading_number-counter.result.1 in
    let read = c.leading_number-counter.ensures in
    let point = c.if-word-point-ne46.false in
    elim c.then-point-eq0.branch [
      | then-point-eq0-via-then-point-eq0 w ↦ wrong_count word count read.within.0 read.digits point (inl (omega (arith, w.if-point-eq0.true)))
      | then-point-eq0-via-else-point-eq0+then-point-gt-DECIMAL_DIGITS w ↦ wrong_count word count read.within.0 read.digits point (inr (omega (arith, w.if-point-gt-DECIMAL_DIGITS.true)))
    ]

pub returns-in_err-ok : goal.returns-in_err-ok
returns-in_err-ok c =
    let word = c.args.word.now in
    let count = c.leading_number-counter.result.1 in
    let read = c.leading_number-counter.ensures in
    let point = c.if-word-point-ne46.false in
    let large = not_fitted c.try_from.result _ _ c.in_err-ok.ensures.value c.try_from.ensures in
    let some = c.if-point-eq0.false in
    none_matches _ _ _ c.from_residual.ensures
    (too_large_counter word count read.within.0 read.digits point (omega (arith, some)) c.if-point-gt-DECIMAL_DIGITS.false
    (elim (cases_lt 4_294_967_295 c.leading_number-counter.result.0) [ inl above ↦ omega (arith, above, read.value) | inr below ↦ absurd (large (omega (arith, below))) ]))

pub returns : goal.returns
returns c =
    let word = c.args.word.now in
    let count = c.leading_number-counter.result.1 in
    let read = c.leading_number-counter.ensures in
    let point = c.if-word-point-ne46.false in
    let fits = fitted c.try_from.result _ _ c.in_ok-ok.field-0 c.in_ok-ok.ensures.value c.try_from.ensures in
    let some = c.if-point-eq0.false in
    let inside : count < length word = let other = c.if-point-word.false in omega (arith, other, read.within.0) in (
      inside,
      sym (point_at word count read.within.0 read.digits point),
      counter_found word count read.within.0 read.digits point c.in_ok-ok.field-0 (omega (arith, some)) c.if-point-gt-DECIMAL_DIGITS.false (fits.1 ∙ read.value) (omega (arith, fits.0, fits.1)),
    )
