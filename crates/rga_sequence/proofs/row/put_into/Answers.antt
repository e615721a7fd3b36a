-- The goals of `put_into` that are answered by hand.
use Rattle.std.proofs.Common.{◌≡◌, ◌<◌, ◌+◌, ◌/◌, ◌++◌, ◌∙◌, [], Some, cond, refl, sym, ap, subst, length, take, drop, get_or, length-set, arith}
use Rattle.std.specs.Prelude.{insert, set, slice_get}
use Rattle.bg_types.specs.Identifier.{same_id}
use Rattle.std.proofs.lemmas.List.{map-set, take_at}
use Rattle.std.proofs.lemmas.List.Edits.{length-insert}
use Rattle.rga_tree.specs.declared.element.Element.{Element}
use Rattle.rga_sequence.specs.declared.block.Block.{Block}
use Rattle.rga_sequence.specs.Blocks.{joined, offset}
use Rattle.rga_sequence.specs.BlockRows.{items_of, numbers_of, home_of, AreHalfFull}
use Rattle.rga_sequence.specs.Bounds.{AreBounds}
use Rattle.rga_sequence.specs.Sums.{AreSums}
use Rattle.rga_sequence.proofs.Grown.{seen_le}
use Rattle.rga_sequence.proofs.Halves.{AreHalfFull-set}
use Rattle.rga_sequence.proofs.Joined.{offset_within}
use Rattle.rga_sequence.proofs.Numbers.{length-items, length-numbers, number_there, numbers-set}
use Rattle.rga_sequence.proofs.Passing.{items_at}
use Rattle.rga_sequence.proofs.Places.{few_numbers}
use Rattle.rga_sequence.proofs.Put.{home_put}
use Rattle.rga_sequence.proofs.Summed.{seen_among-within}
use Rattle.rga_tree.proofs.Interface.{seen-insert, weight_le, insert_joined, seen_all-joined}
use Rattle.rga_sequence.proofs.row.put_into.Goals as goal

pub returns : goal.returns
returns c =
    let bs = c.args.row.now.blocks.items in
    let xs = items_of bs in
    let ns = numbers_of bs in
    let q = c.args.q in
    let x = get_or xs q [] in
    let n : Element = record { id = c.args.id; parent = c.args.parent; ch = c.args.ch; hidden = c.args.hidden } in
    let len_xs : length xs ≡ length bs = length-items bs in
    let len_ns : length ns ≡ length bs = length-numbers bs in
    let some : q < length bs = omega (arith, c.args.row.now.blocks.ok, c.requires.block) in
    let there : q < length xs = omega (arith, len_xs, some) in
    let old = c.index_mut.result.now in
    let new = set bs q c.insert.new.self in
    let as_many : length new ≡ length bs = length-set bs q c.insert.new.self in
    let items : items_of new ≡ set xs q (insert x c.args.at n) =
    map-set (λ (b : Block). b.elements.items) bs q c.insert.new.self ∙ ap (set xs q) (c.insert.ensures.items ∙ ap (λ r. insert r c.args.at n) (sym (items_at bs q old some c.index_mut.ensures.value))) in
    let numbers : numbers_of new ≡ ns = numbers-set bs q old c.insert.new.self some (c.insert.ensures.number ∙ ap (λ (b : Block). b.number) c.index_mut.ensures.value) in
    let elements : joined (items_of new) ≡ insert (joined xs) (offset xs q c.args.at) n = ap joined items ∙ insert_joined xs q c.args.at n there c.requires.within in
    let long : length (joined (items_of new)) ≡ length (joined xs) + 1 = ap length elements ∙ length-insert (joined xs) (offset xs q c.args.at) n (offset_within xs q c.args.at there c.requires.within) in
    let many : length xs ≡ length ns = omega (arith, len_xs, len_ns) in
    let number_is : (c.index.result.now).number ≡ get_or ns q 0 =
    ap (λ (b : Block). b.number) c.index.ensures ∙ sym (number_there new q c.index.result.now (omega (arith, as_many, some))) ∙ ap (λ r. get_or r q 0) numbers in
    let ms = c.args.row.now.bounds.items in
    let lowered : AreBounds c.lower.new.bounds (set xs q (insert x c.args.at n)) =
    c.lower.ensures xs c.args.at n refl (subst (λ r. AreBounds r xs) (sym c.deref_mut.ensures.value) c.requires.indexed.bounds) in
    let kept : take c.args.row.now.bounds.len (c.lower.new.bounds ++ drop (length c.lower.new.bounds) ms) ≡ c.lower.new.bounds =
    take_at c.lower.new.bounds (drop (length c.lower.new.bounds) ms) c.args.row.now.bounds.len (omega (arith, c.lower.auto.bounds, c.deref_mut.ensures.len)) in
    let ss = c.args.row.now.sums.items in
    let raised : AreSums c.raise.new.sums (set xs q (insert x c.args.at n)) =
    c.raise.ensures xs (insert x c.args.at n) there (omega (arith, seen-insert x c.args.at n, c.weight.ensures)) (subst (λ r. AreSums r xs) (sym c.deref_mut-2.ensures.value) c.requires.indexed.sums) in
    let kept_sums : take c.args.row.now.sums.len (c.raise.new.sums ++ drop (length c.raise.new.sums) ss) ≡ c.raise.new.sums =
    take_at c.raise.new.sums (drop (length c.raise.new.sums) ss) c.args.row.now.sums.len (omega (arith, c.raise.auto.sums, c.deref_mut-2.ensures.len)) in
    record {
      elements = elements;
      indexed = record {
        grouped = c.put.ensures.grouped;
        homes = λ k. c.put.ensures.homes k
            ∙ (λ i. cond (same_id k c.args.id) (Some (number_is i)) (c.requires.indexed.homes k i))
            ∙ sym (home_put xs ns q c.args.at n k there many c.requires.new)
            ∙ (λ i. home_of (sym items i) (sym numbers i) k);
        places = λ p less. ap (λ r. slice_get c.args.row.now.places.items (get_or r p 0)) numbers
            ∙ c.requires.indexed.places p (omega (arith, less, as_many));
        as_many = c.requires.indexed.as_many;
        halves = subst AreHalfFull (sym items) (AreHalfFull-set xs q (insert x c.args.at n) c.requires.indexed.halves (omega (arith, length-insert x c.args.at n c.requires.within)));
        bounds = subst (λ ms. AreBounds ms (items_of new)) (sym kept) (subst (AreBounds c.lower.new.bounds) (sym items) lowered);
        sums = subst (λ r. AreSums r (items_of new)) (sym kept_sums) (subst (AreSums c.raise.new.sums) (sym items) raised);
      };
      room = λ m room. record {
        paid = omega (arith, room.paid, long);
        index = c.put.ensures.room m room.index;
        blocks = room.blocks;
        places = room.places;
        few = room.few;
      };
    }

pub put-requires-clause-few : goal.put-requires-clause-few
put-requires-clause-few c =
    let bs = c.args.row.now.blocks.items in
    let ns = numbers_of bs in
    let len_ns : length ns ≡ length bs = length-numbers bs in
    let many : length c.args.row.now.places.items ≡ length ns = omega (arith, len_ns, c.args.row.now.blocks.ok, c.args.row.now.places.ok, c.requires.indexed.as_many) in
    let some : c.args.q < length bs = omega (arith, c.args.row.now.blocks.ok, c.requires.block) in
    let new = set bs c.args.q c.insert.new.self in
    let numbers : numbers_of new ≡ ns = numbers-set bs c.args.q c.index_mut.result.now c.insert.new.self some (c.insert.ensures.number ∙ ap (λ (b : Block). b.number) c.index_mut.ensures.value) in
    let number_is : (c.index.result.now).number ≡ get_or ns c.args.q 0 =
    ap (λ (b : Block). b.number) c.index.ensures ∙ sym (number_there new c.args.q c.index.result.now (omega (arith, length-set bs c.args.q c.insert.new.self, some))) ∙ ap (λ r. get_or r c.args.q 0) numbers in
    let below = few_numbers ns c.args.row.now.places.items c.args.q (λ p h. c.requires.indexed.places p (omega (arith, len_ns, h))) many (omega (arith, len_ns, c.args.row.now.blocks.ok, c.requires.block)) in
    omega (arith, number_is, below, len_ns, c.args.row.now.blocks.ok, c.requires.room.few)

pub raise-requires : goal.raise-requires
raise-requires c = record {
  few = λ d less.
      let xs = items_of c.args.row.now.blocks.items in
      let g = c.args.q / 32 in
      let is = subst (λ r. AreSums r xs) (sym c.deref_mut-2.ensures.value) c.requires.indexed.sums in
      omega (arith, is.sums g d less, seen_among-within xs g, seen_all-joined xs, seen_le (joined xs), c.weight.ensures, weight_le c.args.hidden, c.requires.room.paid, c.requires.room.few);
}
