-- The goals of `hide` that are answered by hand.
use Rattle.std.proofs.Common.{◌≡◌, ◌<◌, ◌/◌, ◌+◌, ◌++◌, ◌∙◌, [], not, true, false, sym, ap, subst, length, take, drop, get_or, length-set, arith}
use Rattle.std.specs.Prelude.{set, slice_get}
use Rattle.std.specs.Ordering.{is_lt}
use Rattle.std.proofs.lemmas.List.{map-set, take_at}
use Rattle.bg_types.specs.Identifier.{id_cmp, same_id}
use Rattle.bg_types.specs.declared.op.Place.TheVariants.{Root}
use Rattle.rga_tree.specs.declared.element.Element.{Element}
use Rattle.rga_sequence.specs.declared.block.Block.{Block}
use Rattle.rga_sequence.specs.Blocks.{seen, joined, offset}
use Rattle.rga_sequence.specs.BlockRows.{items_of, numbers_of, home_of, AreHalfFull}
use Rattle.rga_sequence.specs.Bounds.{AreBounds}
use Rattle.rga_sequence.specs.Sums.{AreSums}
use Rattle.rga_sequence.proofs.Halves.{AreHalfFull-set}
use Rattle.rga_tree.proofs.Interface.{until, get_or_joined, set_joined}
use Rattle.rga_sequence.proofs.Neighbours.{bounds-same}
use Rattle.rga_sequence.proofs.Passing.{items_at}
use Rattle.rga_sequence.proofs.Put.{home_kept}
use Rattle.rga_sequence.proofs.Shown.{hidden_at, all-hide, any-hide}
use Rattle.rga_sequence.proofs.Summed.{seen_among-block}
use Rattle.rga_sequence.proofs.Spots.{seen_set}
use Rattle.rga_sequence.proofs.Numbers.{length-items, numbers-set}
use Rattle.rga_sequence.proofs.row.hide.Goals as goal

pub returns : goal.returns
returns c =
    let bs = c.args.row.now.blocks in
    let xs = items_of bs.items in
    let ns = numbers_of bs.items in
    let len_xs : length xs ≡ length bs.items = length-items bs.items in
    let p = c.unwrap-p.result.0 in
    let j = c.unwrap-p.result.1 in
    let x = get_or xs p [] in
    let there : p < length xs = let h = rw c.unwrap-p.ensures at c.spot.ensures.block in omega (arith, h, len_xs, bs.ok) in
    let within : j < length x = rw c.unwrap-p.ensures at c.spot.ensures.within in
    let place : offset xs p j ≡ until c.args.id (joined xs) = rw c.unwrap-p.ensures at c.spot.ensures.place in
    let none : Element = record { id = c.args.id; parent = Root; ch = 0; hidden = false } in
    let y = set x j (hidden_at x j none) in
    let some : p < length bs.items = omega (arith, len_xs, there) in
    let old = c.index_mut.result.now in
    let here = items_at bs.items p old some c.index_mut.ensures.value in
    let new = set bs.items p c.hide-gone.new.self in
    let as_many : length new ≡ length bs.items = length-set bs.items p c.hide-gone.new.self in
    let hidden : (d : Element) → items_of new ≡ set xs p (set x j (hidden_at x j d)) = λ d.
    map-set (λ (b : Block). b.elements.items) bs.items p c.hide-gone.new.self ∙ ap (set xs p) (c.hide-gone.ensures.items d ∙ ap (λ r. set r j (hidden_at r j d)) (sym here)) in
    let items = hidden none in
    let numbers : numbers_of new ≡ ns = numbers-set bs.items p old c.hide-gone.new.self some (c.hide-gone.ensures.number ∙ ap (λ (b : Block). b.number) c.index_mut.ensures.value) in
    let as_long : length y ≡ length x = length-set x j (hidden_at x j none) in
    let long : length (joined (items_of new)) ≡ length (joined xs) =
    ap length (ap joined items ∙ set_joined xs p j (hidden_at x j none) there within) ∙ length-set (joined xs) (offset xs p j) (hidden_at x j none) in
    let fewer : seen y + c.hide-gone.result ≡ seen x = ap (λ r. seen r + c.hide-gone.result) (sym (c.hide-gone.ensures.items none ∙ ap (λ r. set r j (hidden_at r j none)) (sym here))) ∙ c.hide-gone.ensures.seen ∙ ap seen (sym here) in
    let ss = c.args.row.now.sums.items in
    let lowered : AreSums c.lower.new.sums (set xs p y) =
    c.lower.ensures xs y there fewer (subst (λ r. AreSums r xs) (sym c.deref_mut.ensures.value) c.requires.indexed.sums) in
    let kept : take c.args.row.now.sums.len (c.lower.new.sums ++ drop (length c.lower.new.sums) ss) ≡ c.lower.new.sums =
    take_at c.lower.new.sums (drop (length c.lower.new.sums) ss) c.args.row.now.sums.len (omega (arith, c.lower.auto.sums, c.deref_mut.ensures.len)) in
    record {
      elements = λ d. ap joined (hidden d) ∙ set_joined xs p j (hidden_at x j d) there within
          ∙ ap (λ (e : Element). set (joined xs) (offset xs p j) (record e { hidden = true })) (sym (get_or_joined xs p j d there within))
          ∙ ap (λ n. set (joined xs) n (hidden_at (joined xs) n d)) place;
      seen = omega (arith, fewer, ap (λ r. seen (joined r)) items, seen_set xs p y there);
      indexed = record {
        grouped = c.requires.indexed.grouped;
        homes = λ k. c.requires.indexed.homes k ∙ sym (home_kept xs ns p y k (λ m. any-hide (same_id m) x j none) there) ∙ (λ i. home_of (sym items i) (sym numbers i) k);
        places = λ k less. ap (λ r. slice_get c.args.row.now.places.items (get_or r k 0)) numbers
            ∙ c.requires.indexed.places k (omega (arith, less, as_many));
        as_many = c.requires.indexed.as_many;
        halves = subst AreHalfFull (sym items) (AreHalfFull-set xs p y c.requires.indexed.halves (omega (arith, as_long)));
        bounds = subst (AreBounds c.args.row.now.bounds.items) (sym items) (bounds-same c.args.row.now.bounds.items xs p y (λ m. all-hide (λ i. not (is_lt (id_cmp i m))) x j none) c.requires.indexed.bounds);
        sums = subst (λ r. AreSums r (items_of new)) (sym kept) (subst (AreSums c.lower.new.sums) (sym items) lowered);
      };
      room = λ n room. record {
        paid = omega (arith, room.paid, long);
        index = room.index;
        blocks = room.blocks;
        places = room.places;
        few = room.few;
      };
    }

pub lower-requires : goal.lower-requires
lower-requires c = record {
  there = λ d less.
      let bs = c.args.row.now.blocks in
      let xs = items_of bs.items in
      let p = c.unwrap-p.result.0 in
      let there : p < length xs = let h = rw c.unwrap-p.ensures at c.spot.ensures.block in omega (arith, h, length-items bs.items, bs.ok) in
      let is = subst (λ r. AreSums r xs) (sym c.deref_mut.ensures.value) c.requires.indexed.sums in
      let here = items_at bs.items p c.index_mut.result.now (omega (arith, length-items bs.items, there)) c.index_mut.ensures.value in
      omega (arith, is.sums (p / 32) d less, seen_among-block xs p there, c.hide-gone.ensures.seen, ap seen here);
}
