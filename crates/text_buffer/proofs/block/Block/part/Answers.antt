-- Both parts have the sums of the whole.
use Rattle.std.proofs.Common.{length, ap, ◌∙◌, arith}
use Rattle.std.specs.List.{concat}
use Rattle.text_buffer.specs.Buffers.{bytes_in}
use Rattle.text_buffer.specs.Pieces.{points_in, kept_count}
use Rattle.text_buffer.proofs.Sums.{bytes-parts, places-parts, kept-parts}
use Rattle.text_buffer.proofs.block.Block.part.Goals as goal

pub of-upper-requires-clause-few : goal.of-upper-requires-clause-few
of-upper-requires-clause-few g c =
    let sums = bytes-parts c.args.self.now.pieces.items c.args.number in
    omega (arith, c.requires.few, sums, ap (λ ps. bytes_in (concat (points_in ps))) c.in_ok-split_off.ensures.tail)

pub overflow_sub-self : goal.overflow_sub-self
overflow_sub-self g c =
    let sums = bytes-parts c.args.self.now.pieces.items c.args.number in
    omega (arith, sums, c.of-upper.result.bytes_is, c.args.self.now.bytes_is, ap (λ v. bytes_in (concat (points_in v.items))) c.of-upper.ensures, ap (λ ps. bytes_in (concat (points_in ps))) c.in_ok-split_off.ensures.tail)

pub overflow_sub-self-2 : goal.overflow_sub-self-2
overflow_sub-self-2 g c =
    let sums = places-parts c.args.self.now.pieces.items c.args.number in
    omega (arith, sums, c.of-upper.result.places_is, c.args.self.now.places_is, ap (λ v. length (concat (points_in v.items))) c.of-upper.ensures, ap (λ ps. length (concat (points_in ps))) c.in_ok-split_off.ensures.tail)

pub overflow_sub-self-3 : goal.overflow_sub-self-3
overflow_sub-self-3 g c =
    let sums = kept-parts c.args.self.now.pieces.items c.args.number in
    omega (arith, sums, c.of-upper.result.kept_is, c.args.self.now.kept_is, ap (λ v. kept_count v.items) c.of-upper.ensures, ap kept_count c.in_ok-split_off.ensures.tail)

pub invariant_of-self-2 : goal.invariant_of-self-2
invariant_of-self-2 g c =
    let bytes = bytes-parts c.args.self.now.pieces.items c.args.number in
    let places = places-parts c.args.self.now.pieces.items c.args.number in
    let kept = kept-parts c.args.self.now.pieces.items c.args.number in
    let high = c.in_ok-split_off.ensures.tail in
    let low = c.shrink_to_fit.ensures.items ∙ c.in_ok-split_off.ensures.items in
    record {
      some = omega (arith, ap length c.shrink_to_fit.ensures.items, c.in_ok-split_off.ensures.len, c.requires.some);
      bytes_is = omega (arith, bytes, c.of-upper.result.bytes_is, c.args.self.now.bytes_is, ap (λ v. bytes_in (concat (points_in v.items))) c.of-upper.ensures, ap (λ ps. bytes_in (concat (points_in ps))) high, ap (λ ps. bytes_in (concat (points_in ps))) low);
      places_is = omega (arith, places, c.of-upper.result.places_is, c.args.self.now.places_is, ap (λ v. length (concat (points_in v.items))) c.of-upper.ensures, ap (λ ps. length (concat (points_in ps))) high, ap (λ ps. length (concat (points_in ps))) low);
      kept_is = omega (arith, kept, c.of-upper.result.kept_is, c.args.self.now.kept_is, ap (λ v. kept_count v.items) c.of-upper.ensures, ap kept_count high, ap kept_count low);
    }
