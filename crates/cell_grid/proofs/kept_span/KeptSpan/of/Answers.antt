-- The numbers that were put apart come together.
use Rattle.std.proofs.Common.{◌≡◌, ◌<◌, ◌+◌, ◌*◌, ◌%◌, ◌/◌, ◌-◌, ap, ◌∙◌, arith}
use Rattle.cell_grid.specs.KeptSpans.{number_of, span_kept}
use Rattle.cell_grid.proofs.Alone.{span-is}
use Rattle.cell_grid.proofs.KeptSpans.{put-together, share-stays}
use Rattle.cell_grid.proofs.kept_span.KeptSpan.of.Goals as goal

pub returns-clause-span : goal.returns-clause-span
unfolding span_kept
returns-clause-span c =
    let span = c.args.span in
    let bytes = span.end_byte - span.first_byte in
    let points = span.end_place - span.first_place in
    let share = points / 65_536 in
    let r = c.requires in
    let few : share / 16 < 4 = omega (arith, r.end_place) in
    let byte =
    ap (λ l. number_of l c.high.result) c.low.ensures ∙ ap (number_of (span.first_byte % 65_536)) c.high.ensures ∙ put-together span.first_byte (share % 4) (omega arith) in
    let place =
    ap (λ l. number_of l c.high-2.result) c.low-2.ensures ∙ ap (number_of (span.first_place % 65_536)) c.high-2.ensures ∙ put-together span.first_place (share / 4 % 4) (omega arith) in
    let size = ap (λ l. number_of l c.high-3.result) c.low-3.ensures ∙ ap (number_of (bytes % 65_536)) c.high-3.ensures ∙ put-together bytes (share / 16) few in
    let first = ap (λ n. n % 4) c.high.ensures ∙ share-stays span.first_byte (share % 4) (omega arith) in
    let second = ap (λ n. n % 4) c.high-2.ensures ∙ share-stays span.first_place (share / 4 % 4) (omega arith) in
    let third = ap (λ n. n % 4) c.high-3.ensures ∙ share-stays bytes (share / 16) few in
    let all : (share % 4 + share / 4 % 4 * 4 + share / 16 * 16) * 65_536 + points % 65_536 ≡ points = omega arith in
    let length =
    ap (λ n. (n + c.high-2.result % 4 * 4 + c.high-3.result % 4 * 16) * 65_536 + c.low-4.result) first
    ∙ ap (λ n. (share % 4 + n * 4 + c.high-3.result % 4 * 16) * 65_536 + c.low-4.result) second
    ∙ ap (λ n. (share % 4 + share / 4 % 4 * 4 + n * 16) * 65_536 + c.low-4.result) third
    ∙ ap (λ n. (share % 4 + share / 4 % 4 * 4 + share / 16 * 16) * 65_536 + n) c.low-4.ensures
    ∙ all in
    let to_byte : span.first_byte + bytes ≡ span.end_byte = omega (arith, r.bytes) in
    let to_place : span.first_place + points ≡ span.end_place = omega (arith, r.places) in
    span-is _ _ _ _ span byte
    (ap (λ n. n + number_of c.low-3.result c.high-3.result) byte ∙ ap (λ n. span.first_byte + n) size ∙ to_byte) place
    (ap (λ n. n + ((c.high.result % 4 + c.high-2.result % 4 * 4 + c.high-3.result % 4 * 16) * 65_536 + c.low-4.result)) place ∙ ap (λ n. span.first_place + n) length ∙ to_place)
