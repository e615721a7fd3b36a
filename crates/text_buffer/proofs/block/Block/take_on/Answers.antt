-- What was there and what comes have the sums of both.
use Rattle.std.proofs.Common.{◌≡◌, ◌++◌, rules, length, ap, arith}
use Rattle.std.proofs.lemmas.List.{length-append}
use Rattle.std.specs.List.{concat}
use Rattle.std.specs.Result.{IsOk}
use Rattle.text_buffer.specs.Buffers.{bytes_in}
use Rattle.text_buffer.specs.Pieces.{points_in, kept_count}
use Rattle.text_buffer.proofs.Sums.{bytes-both, places-both, places-few, kept-both}
use Rattle.text_buffer.proofs.Places.{if_ok}
use Rattle.text_buffer.proofs.block.Block.take_on.Goals as goal

pub overflow_add-self-2 : goal.overflow_add-self-2
overflow_add-self-2 g c =
    let own = c.args.self.now in
    let next = c.args.next in
    omega (arith, own.places_is, next.places_is, places-few (concat (points_in own.pieces.items)), places-few (concat (points_in next.pieces.items)), c.requires.few)

pub invariant_of-self-2 : goal.invariant_of-self-2
invariant_of-self-2 g c =
    let own = c.args.self.now in
    let next = c.args.next in
    let ok : IsOk c.append.result = search rules in
    let new : c.append.new.self.items ≡ own.pieces.items ++ next.pieces.items = if_ok c.append.result c.append.new.self.items _ _ ok c.append.ensures.items in
    record {
      some = omega (arith, ap length new, length-append own.pieces.items next.pieces.items, own.some, own.pieces.ok, c.append.new.self.ok);
      bytes_is = omega (arith, own.bytes_is, next.bytes_is, ap (λ t. bytes_in (concat (points_in t))) new, bytes-both own.pieces.items next.pieces.items);
      places_is = omega (arith, own.places_is, next.places_is, ap (λ t. length (concat (points_in t))) new, places-both own.pieces.items next.pieces.items);
      kept_is = omega (arith, own.kept_is, next.kept_is, ap kept_count new, kept-both own.pieces.items next.pieces.items);
    }
