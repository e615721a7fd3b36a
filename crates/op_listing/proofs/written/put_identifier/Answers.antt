-- The goals of `put_identifier` that are answered by hand.
use Rattle.std.proofs.Common.{◌≤◌, ℕ, ◌<◌, ◌^◌, length, arith}
use Rattle.std.specs.Fmt.{decimal}
use Rattle.std.proofs.lemmas.Fmt.{length-decimal-le}
use Rattle.op_listing.proofs.written.put_identifier.Goals as goal

site_length : (n : ℕ) → n < 2 ^ 16 → length (decimal n) ≤ 5
site_length n fits = length-decimal-le 5 n (omega arith) (omega (arith, fits)) (omega (arith, fits))

counter_length : (n : ℕ) → n < 2 ^ 32 → length (decimal n) ≤ 10
counter_length n fits = length-decimal-le 10 n (omega arith) (omega (arith, fits)) (omega (arith, fits))

pub write_digits-start-requires : goal.write_digits-start-requires
write_digits-start-requires c =
    let long = site_length c.from.result (rw (c.from.ensures, c.site.ensures.value) c.site.ensures.identifier.site_fits) in
    (omega (arith, long, c.requires.0), c.requires.1)

pub put_byte-start-requires : goal.put_byte-start-requires
put_byte-start-requires c =
    let long = site_length c.from.result (rw (c.from.ensures, c.site.ensures.value) c.site.ensures.identifier.site_fits) in
    let start = c.write_digits-start.ensures.start in
    (omega (arith, long, start, c.requires.0), omega (arith, start, c.requires.1))

pub write_digits-requires : goal.write_digits-requires
write_digits-requires c =
    let long = site_length c.from.result (rw (c.from.ensures, c.site.ensures.value) c.site.ensures.identifier.site_fits) in
    let start = c.write_digits-start.ensures.start in
    let point = c.put_byte-start.ensures.start in
    let more = counter_length c.from-2.result (rw (c.from-2.ensures, c.counter.ensures.value) c.counter.ensures.identifier.counter_fits) in
    (omega (arith, long, more, start, point, c.requires.0), omega (arith, start, point, c.requires.1))

pub returns-clause-within : goal.returns-clause-within
returns-clause-within c =
    let long = site_length c.from.result (rw (c.from.ensures, c.site.ensures.value) c.site.ensures.identifier.site_fits) in
    let start = c.write_digits-start.ensures.start in
    let point = c.put_byte-start.ensures.start in
    let more = counter_length c.from-2.result (rw (c.from-2.ensures, c.counter.ensures.value) c.counter.ensures.identifier.counter_fits) in
    let first = c.write_digits.ensures.start in
    (omega (arith, long, more, start, point, first), omega (arith, start, point, first))
