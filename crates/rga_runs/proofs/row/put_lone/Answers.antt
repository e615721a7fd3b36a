-- The goals of `put_lone` that are answered by hand.
use Rattle.std.proofs.Common.{◌≡◌, ◌<◌, ◌+◌, ◌/◌, ◌++◌, ◌∙◌, [], sym, ap, subst, take, drop, length, get_or, length-set, arith}
use Rattle.std.specs.Prelude.{All, insert, set, slice_get}
use Rattle.std.proofs.lemmas.List.{take_at}
use Rattle.std.proofs.lemmas.List.Edits.{length-insert}
use Rattle.rga_runs.specs.declared.block.Block.{Block}
use Rattle.rga_runs.specs.Stretches.{IsOutside}
use Rattle.rga_runs.specs.Blocks.{row_of, at_spot, AreHalfFull}
use Rattle.rga_runs.specs.BlockRows.{items_of, numbers_of}
use Rattle.rga_runs.specs.Bounds.{AreBounds}
use Rattle.rga_runs.specs.Sums.{AreSums}
use Rattle.rga_runs.specs.Keyed.{look_in}
use Rattle.rga_runs.specs.KeyRows.{keys_in}
use Rattle.rga_runs.specs.Indexed.{AreHome, AreKnown}
use Rattle.rga_runs.proofs.BlockLists.{length-items, items-set, length-numbers, numbers-set, number_there, few_stretches}
use Rattle.rga_runs.proofs.Chunks.{insert_row, at_within}
use Rattle.rga_runs.proofs.Halves.{AreHalfFull-set}
use Rattle.rga_runs.proofs.Homes.{Gains, homes_insert}
use Rattle.rga_runs.proofs.Known.{home_lone, known_insert}
use Rattle.rga_runs.proofs.Numbers.{few_numbers}
use Rattle.rga_runs.proofs.Summed.{visible_among-within, few_seen, visible-lone, weight_le}
use Rattle.rga_runs.proofs.Taken.{one_more}
use Rattle.rga_runs.proofs.row.put_lone.Goals as goal

pub overflow_add-row : goal.overflow_add-row
overflow_add-row c =
    let mid = c.make_room-q.new.row in
    let room = c.make_room-q.ensures.room 0 c.requires.room in
    omega (arith, c.make_room-q.ensures.indexed.counted, few_stretches mid.blocks.items, mid.blocks.ok, room.few)

pub put-requires-clause-few : goal.put-requires-clause-few
put-requires-clause-few c =
    let mid = c.make_room-q.new.row in
    let bs = mid.blocks.items in
    let ns = numbers_of bs in
    let q = c.make_room-q.result.0 in
    let some : q < length bs = omega (arith, mid.blocks.ok, c.make_room-q.ensures.block) in
    let new = set bs q c.insert.new.self in
    let numbers : numbers_of new ≡ ns = numbers-set bs q c.index_mut.result.now c.insert.new.self some c.index_mut.ensures.value c.insert.ensures.number in
    let len_ns : length ns ≡ length bs = length-numbers bs in
    let number_is : (c.index.result.now).number ≡ get_or ns q 0 =
    ap (λ (b : Block). b.number) c.index.ensures ∙ sym (number_there new q c.index.result.now (omega (arith, some, length-set bs q c.insert.new.self))) ∙ ap (λ r. get_or r q 0) numbers in
    let many : length mid.places.items ≡ length ns = omega (arith, len_ns, mid.blocks.ok, mid.places.ok, c.make_room-q.ensures.indexed.as_many) in
    let below = few_numbers ns mid.places.items q (λ p h. c.make_room-q.ensures.indexed.places p (omega (arith, len_ns, h))) many (omega (arith, len_ns, mid.blocks.ok, c.make_room-q.ensures.block)) in
    let room = c.make_room-q.ensures.room 0 c.requires.room in
    omega (arith, number_is, below, len_ns, mid.blocks.ok, room.few)

pub put-requires-clause-room : goal.put-requires-clause-room
put-requires-clause-room c =
    let room = c.make_room-q.ensures.room 0 c.requires.room in
    λ none. omega (arith, none, c.make_room-q.ensures.indexed.keyed, room.keys (omega (arith, none)))

pub returns : goal.returns
returns c =
    let mid = c.make_room-q.new.row in
    let was = c.make_room-q.ensures.indexed in
    let bs = mid.blocks.items in
    let xs = items_of bs in
    let ns = numbers_of bs in
    let q = c.make_room-q.result.0 in
    let at = c.make_room-q.result.1 in
    let x = get_or xs q [] in
    let id = c.args.id in
    let e = c.insert.ensures.items in
    let s = e.0 in
    let some : q < length bs = omega (arith, mid.blocks.ok, c.make_room-q.ensures.block) in
    let new = set bs q c.insert.new.self in
    let items : items_of new ≡ set xs q (insert x at s) = items-set bs q c.index_mut.result.now c.insert.new.self (λ l. insert l at s) some c.index_mut.ensures.value e.2 in
    let numbers : numbers_of new ≡ ns = numbers-set bs q c.index_mut.result.now c.insert.new.self some c.index_mut.ensures.value c.insert.ensures.number in
    let there : q < length xs = omega (arith, length-items bs, mid.blocks.ok, c.make_room-q.ensures.block) in
    let row_is : row_of (items_of new) ≡ insert (row_of xs) (at_spot xs q at) s = ap row_of items ∙ insert_row xs q at s there c.make_room-q.ensures.within in
    let long : length (row_of (items_of new)) ≡ length (row_of xs) + 1 = ap length row_is ∙ length-insert (row_of xs) (at_spot xs q at) s (at_within xs q at there c.make_room-q.ensures.within) in
    let old_look = look_in (keys_in mid.keys) in
    let look = look_in (keys_in c.put.new.keys) in
    let number_is : (c.index.result.now).number ≡ get_or ns q 0 =
    ap (λ (b : Block). b.number) c.index.ensures ∙ sym (number_there new q c.index.result.now (omega (arith, some, length-set bs q c.insert.new.self))) ∙ ap (λ r. get_or r q 0) numbers in
    let gains : Gains look old_look id (get_or ns q 0) = subst (Gains look old_look id) number_is c.put.ensures.looks in
    let outside : All (IsOutside id) (row_of xs) = subst (All (IsOutside id)) (sym c.make_room-q.ensures.row) c.requires.new in
    let own = home_lone look (keys_in mid.keys) id (get_or ns q 0) s gains e.1.first e.1.count in
    let homes : AreHome look (set xs q (insert x at s)) ns = homes_insert look old_look id xs ns q at s there gains outside was.homes own in
    let ms = mid.bounds.items in
    let lowered : AreBounds c.lower.new.bounds (set xs q (insert x at s)) = c.lower.ensures xs at s e.1.first (subst (λ r. AreBounds r xs) (sym c.deref_mut.ensures.value) was.bounds) in
    let kept : take mid.bounds.len (c.lower.new.bounds ++ drop (length c.lower.new.bounds) ms) ≡ c.lower.new.bounds =
    take_at c.lower.new.bounds (drop (length c.lower.new.bounds) ms) mid.bounds.len (omega (arith, c.lower.auto.bounds, c.deref_mut.ensures.len)) in
    let sums = mid.sums.items in
    let raised : AreSums c.raise.new.sums (set xs q (insert x at s)) =
    c.raise.ensures xs (insert x at s) there (omega (arith, visible-lone x at s id c.args.parent c.args.start c.args.hidden e.1, c.weight.ensures)) (subst (λ r. AreSums r xs) (sym c.deref_mut-2.ensures.value) was.sums) in
    let kept_sums : take mid.sums.len (c.raise.new.sums ++ drop (length c.raise.new.sums) sums) ≡ c.raise.new.sums =
    take_at c.raise.new.sums (drop (length c.raise.new.sums) sums) mid.sums.len (omega (arith, c.raise.auto.sums, c.deref_mut-2.ensures.len)) in
    record {
      row = (s, e.1, row_is ∙ (λ i. insert (c.make_room-q.ensures.row i) (c.make_room-q.ensures.place i) s));
      indexed = record {
        homes = subst (λ ys. AreHome look ys (numbers_of new)) (sym items) (subst (AreHome look (set xs q (insert x at s))) (sym numbers) homes);
        known = subst (AreKnown look) (sym row_is) (known_insert look old_look id (get_or ns q 0) (row_of xs) (at_spot xs q at) s gains e.1.first was.known);
        places = λ p less. ap (λ r. slice_get mid.places.items (get_or r p 0)) numbers
            ∙ was.places p (omega (arith, less, length-set bs q c.insert.new.self));
        as_many = was.as_many;
        keyed = omega (arith, c.put.ensures.len, was.keyed, long);
        counted = omega (arith, was.counted, long);
        halves = subst AreHalfFull (sym items) (AreHalfFull-set xs q (insert x at s) was.halves (omega (arith, length-insert x at s c.make_room-q.ensures.within)));
        bounds = subst (λ bounds. AreBounds bounds (items_of new)) (sym kept) (subst (AreBounds c.lower.new.bounds) (sym items) lowered);
        sums = subst (λ r. AreSums r (items_of new)) (sym kept_sums) (subst (AreSums c.raise.new.sums) (sym items) raised);
        few = was.few;
      };
      room = one_more c.args.row.now _ (omega (arith, long, ap length c.make_room-q.ensures.row)) (λ n paid.
          let room = c.make_room-q.ensures.room n paid in
          record {
            paid = λ few. omega (arith, room.paid few, long);
            keys = λ few. omega (arith, room.keys (omega (arith, few, c.put.ensures.spares)), long, c.put.ensures.room);
            blocks = room.blocks;
            places = room.places;
            few = room.few;
          });
    }

pub raise-requires : goal.raise-requires
raise-requires c = record {
  few = λ d less.
      let mid = c.make_room-q.new.row in
      let was = c.make_room-q.ensures.indexed in
      let xs = items_of mid.blocks.items in
      let g = c.make_room-q.result.0 / 32 in
      let is = subst (λ r. AreSums r xs) (sym c.deref_mut-2.ensures.value) was.sums in
      omega (arith, is.sums g d less, visible_among-within xs g, few_seen mid.blocks.items (omega (arith, was.few, mid.blocks.ok)), c.weight.ensures, weight_le c.args.hidden);
}
