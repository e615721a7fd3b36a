-- What goes and what stays have the sums of all.
use Rattle.std.proofs.Common.{length, take, ap, arith}
use Rattle.std.proofs.lemmas.List.{length-drop}
use Rattle.std.specs.List.{concat}
use Rattle.text_buffer.specs.Buffers.{bytes_in}
use Rattle.text_buffer.specs.Pieces.{points_in, kept_count}
use Rattle.text_buffer.proofs.Sums.{bytes-parts, places-parts, kept-parts}
use Rattle.text_buffer.proofs.block.Block.drop_front.Goals as goal

pub sum_up-gone-requires : goal.sum_up-gone-requires
sum_up-gone-requires g c =
    let e = ap (λ ps. bytes_in (concat (points_in (take c.args.count ps)))) c.deref.ensures.value in
    record { few = omega (arith, e, bytes-parts c.args.self.now.pieces.items c.args.count, c.requires.few) }

pub overflow_sub-self : goal.overflow_sub-self
overflow_sub-self g c =
    let e = ap (λ ps. bytes_in (concat (points_in (take c.args.count ps)))) c.deref.ensures.value in
    omega (arith, e, bytes-parts c.args.self.now.pieces.items c.args.count, c.sum_up-gone.ensures.bytes, c.args.self.now.bytes_is)

pub overflow_sub-self-2 : goal.overflow_sub-self-2
overflow_sub-self-2 g c =
    let e = ap (λ ps. length (concat (points_in (take c.args.count ps)))) c.deref.ensures.value in
    omega (arith, e, places-parts c.args.self.now.pieces.items c.args.count, c.sum_up-gone.ensures.places, c.args.self.now.places_is)

pub overflow_sub-self-3 : goal.overflow_sub-self-3
overflow_sub-self-3 g c =
    let e = ap (λ ps. kept_count (take c.args.count ps)) c.deref.ensures.value in
    omega (arith, e, kept-parts c.args.self.now.pieces.items c.args.count, c.sum_up-gone.ensures.kept, c.args.self.now.kept_is)

pub invariant_of-self : goal.invariant_of-self
invariant_of-self g c =
    let ps = c.args.self.now.pieces.items in
    let left = c.drop_front.ensures in
    let b = ap (λ ps. bytes_in (concat (points_in (take c.args.count ps)))) c.deref.ensures.value in
    let p = ap (λ ps. length (concat (points_in (take c.args.count ps)))) c.deref.ensures.value in
    record {
      some = omega (arith, ap length left, length-drop c.args.count ps, c.requires.within, c.drop_front.new.row.ok);
      bytes_is = omega (arith, b, bytes-parts ps c.args.count, c.sum_up-gone.ensures.bytes, c.args.self.now.bytes_is, ap (λ t. bytes_in (concat (points_in t))) left);
      places_is = omega (arith, p, places-parts ps c.args.count, c.sum_up-gone.ensures.places, c.args.self.now.places_is, ap (λ t. length (concat (points_in t))) left);
      kept_is = omega (arith, ap (λ ps. kept_count (take c.args.count ps)) c.deref.ensures.value, kept-parts ps c.args.count, c.sum_up-gone.ensures.kept, c.args.self.now.kept_is, ap kept_count left);
    }
