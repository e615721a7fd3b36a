-- The goal of `hide_character` that is answered by hand.
use Rattle.std.proofs.Common.{◌≡◌, ◌++◌, ◌/◌, ◌<◌, ◌∙◌, [], sym, ap, subst, length, get_or, take, drop, List, arith}
use Rattle.std.specs.Prelude.{set, slice_get}
use Rattle.std.proofs.lemmas.List.{take_at, length-set, get_or_default}
use Rattle.std.proofs.lemmas.List.Elements.{All-set}
use Rattle.rga_runs.specs.declared.stretch.Stretch.{Stretch}
use Rattle.rga_runs.specs.Changed.{IsHidden}
use Rattle.rga_runs.specs.Blocks.{row_of, at_spot, AreHalfFull}
use Rattle.rga_runs.specs.BlockRows.{items_of, numbers_of}
use Rattle.rga_runs.specs.Bounds.{AreBounds}
use Rattle.rga_runs.specs.Sums.{AreSums}
use Rattle.rga_runs.specs.Keyed.{look_in}
use Rattle.rga_runs.specs.KeyRows.{keys_in}
use Rattle.rga_runs.specs.Indexed.{IsHome, AreHome, AreKnown}
use Rattle.rga_runs.proofs.BlockLists.{length-items, items_at, items-set, numbers-set}
use Rattle.rga_runs.proofs.Chunks.{set_row, get_or_row, at_less, one_there}
use Rattle.rga_runs.proofs.Halves.{AreHalfFull-set}
use Rattle.rga_runs.proofs.Homes.{homes_set, home_shorter}
use Rattle.rga_runs.proofs.Known.{known_set}
use Rattle.rga_runs.proofs.Low.{low_set}
use Rattle.rga_runs.proofs.Neighbours.{bounds-same}
use Rattle.rga_runs.proofs.Summed.{visible_among-block, visible-lowered}
use Rattle.rga_runs.proofs.Taken.{none_more}
use Rattle.rga_runs.proofs.row.hide_character.Goals as goal

pub returns : goal.returns
returns c =
    let r = c.args.row.now in
    let was = c.requires.indexed in
    let bs = r.blocks.items in
    let xs = items_of bs in
    let ns = numbers_of bs in
    let b = c.args.b in
    let j = c.args.j in
    let x = get_or xs b [] in
    let p = at_spot xs b j in
    let there : b < length xs = omega (arith, length-items bs, r.blocks.ok, c.requires.block) in
    let d = one_there x j c.requires.within in
    let old_block = c.index_mut.result.now in
    let some : b < length bs = omega (arith, r.blocks.ok, c.requires.block) in
    let at = c.index_mut.ensures.value in
    let e = c.hide.ensures.items d in
    let s = e.0 in
    let is : IsHidden (get_or x j d) s c.args.k = subst (λ (l : List Stretch). IsHidden (get_or l j d) s c.args.k) (sym (items_at bs b old_block some at)) e.1 in
    let new = set bs b c.hide.new.self in
    let items : items_of new ≡ set xs b (set x j s) = items-set bs b old_block c.hide.new.self (λ l. set l j s) some at e.2 in
    let numbers : numbers_of new ≡ ns = numbers-set bs b old_block c.hide.new.self some at c.hide.ensures.number in
    let row_is : row_of (items_of new) ≡ set (row_of xs) p s = ap row_of items ∙ set_row xs b j s there c.requires.within in
    let long : length (row_of (items_of new)) ≡ length (row_of xs) = ap length row_is ∙ length-set (row_of xs) p s in
    let look = look_in (keys_in r.keys) in
    let item = λ (z : Stretch). get_or_row xs b j z there c.requires.within in
    let own : IsHome look (get_or ns b 0) s = home_shorter look (get_or ns b 0) (get_or x j d) s is.first (omega (arith, is.count)) (was.homes b there j d c.requires.within) in
    let changed : AreSums c.lower.new.sums (set xs b (set x j s)) =
    c.lower.ensures xs (set x j s) there (visible-lowered x j 1 d s c.requires.within is.visible) (subst (λ l. AreSums l xs) (sym c.deref_mut.ensures.value) was.sums) in
    let kept : take r.sums.len (c.lower.new.sums ++ drop (length c.lower.new.sums) r.sums.items) ≡ c.lower.new.sums =
    take_at c.lower.new.sums (drop (length c.lower.new.sums) r.sums.items) r.sums.len (omega (arith, c.lower.auto.sums, c.deref_mut.ensures.len)) in
    record {
      row = λ d2. (s, subst (λ (z : Stretch). IsHidden z s c.args.k) (get_or_default x j d d2 c.requires.within ∙ sym (item d2)) is, row_is);
      indexed = record {
        homes = subst (λ ys. AreHome look ys (numbers_of new)) (sym items) (subst (AreHome look (set xs b (set x j s))) (sym numbers)
            (homes_set look xs ns b (set x j s) there was.homes (All-set (IsHome look (get_or ns b 0)) x j s own (was.homes b there))));
        known = subst (AreKnown look) (sym row_is) (known_set look (row_of xs) p d s (at_less xs b j there c.requires.within) (is.first ∙ ap (λ (z : Stretch). z.first) (sym (item d)))
            (omega (arith, is.count, ap (λ (z : Stretch). z.count) (item d))) was.known);
        places = λ p less. ap (λ l. slice_get r.places.items (get_or l p 0)) numbers
            ∙ was.places p (omega (arith, less, length-set bs b c.hide.new.self));
        as_many = was.as_many;
        keyed = omega (arith, was.keyed, long);
        counted = omega (arith, was.counted, long);
        halves = subst AreHalfFull (sym items) (AreHalfFull-set xs b (set x j s) was.halves (omega (arith, length-set x j s)));
        bounds = subst (AreBounds r.bounds.items) (sym items) (bounds-same r.bounds.items xs b (set x j s) (λ m h. low_set m x j d s h c.requires.within is.first) was.bounds);
        sums = subst (λ l. AreSums l (items_of new)) (sym kept) (subst (AreSums c.lower.new.sums) (sym items) changed);
        few = was.few;
      };
      room = none_more c.args.row.now _ (long) (λ n room. record {
        paid = λ few. omega (arith, room.paid few, long);
        keys = λ few. omega (arith, room.keys few, long);
        blocks = room.blocks;
        places = room.places;
        few = room.few;
      });
    }

pub lower-requires : goal.lower-requires
lower-requires c = record {
  there = λ e less.
      let r = c.args.row.now in
      let was = c.requires.indexed in
      let xs = items_of r.blocks.items in
      let b = c.args.b in
      let x = get_or xs b [] in
      let there : b < length xs = omega (arith, length-items r.blocks.items, r.blocks.ok, c.requires.block) in
      let d = one_there x c.args.j c.requires.within in
      let is = subst (λ l. AreSums l xs) (sym c.deref_mut.ensures.value) was.sums in
      let gone = c.hide.ensures.items d in
      let here = items_at r.blocks.items b c.index_mut.result.now (omega (arith, r.blocks.ok, c.requires.block)) c.index_mut.ensures.value in
      let fewer = subst (λ (l : List Stretch). IsHidden (get_or l c.args.j d) gone.0 c.args.k) (sym here) gone.1 in
      omega (arith, is.sums (b / 32) e less, visible_among-block xs b there, visible-lowered x c.args.j 1 d gone.0 c.requires.within fewer.visible);
}
