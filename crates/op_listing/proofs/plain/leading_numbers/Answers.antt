-- The goals of `leading_numbers` that are answered by hand.
use Rattle.std.proofs.Common.{sym, ◌∙◌, arith}
use Rattle.op_listing.proofs.Leading.{fitted}
use Rattle.op_listing.proofs.PlainLines.{slice_from, identifier_taken}
use Rattle.op_listing.proofs.plain.leading_numbers.Goals as goal

pub returns : goal.returns
returns c =
    let bytes = c.args.bytes.now in
    let digits = c.in_ok-digits.digits.now in
    let point = c.leading_digits-counter.result.1 in
    let end = c.leading_digits-site.result.1 in
    let one = c.leading_digits-counter.ensures in
    let two = c.leading_digits-site.ensures in
    let fits = fitted c.try_from.result _ _ c.in_ok-site.site c.in_ok-site.ensures.value c.try_from.ensures in
    let some = c.if-point-eq0.false in
    let some_site = c.if-end-eq0.false in
    identifier_taken bytes digits _ point end c.leading_digits-counter.result.0 c.in_ok-site.site c.requires one.within two.within one.digits one.value two.digits (fits.1 ∙ two.value)
    (sym (slice_from point bytes) ∙ c.in_ok-digits.ensures) (slice_from end digits) (omega (arith, some)) (omega (arith, some_site)) (omega (arith, fits.0, fits.1))
