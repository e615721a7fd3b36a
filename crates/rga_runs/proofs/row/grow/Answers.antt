-- The goal of `grow` that is answered by hand.
use Rattle.std.proofs.Common.{◌≡◌, ◌++◌, ◌/◌, ℕ, ◌<◌, ◌+◌, ◌∙◌, [], sym, ap, subst, length, get_or, take, drop, List, arith}
use Rattle.std.specs.Prelude.{All, set, slice_get}
use Rattle.std.proofs.lemmas.List.{take_at, length-set, get_or_default}
use Rattle.std.proofs.lemmas.List.Elements.{All-set}
use Rattle.bg_types.specs.Identifier.{Identifier}
use Rattle.rga_runs.specs.declared.stretch.Stretch.{Stretch}
use Rattle.rga_runs.specs.Changed.{IsGrown}
use Rattle.rga_runs.specs.Typed.{later}
use Rattle.rga_runs.specs.Stretches.{IsOutside}
use Rattle.rga_runs.specs.Blocks.{row_of, at_spot, AreHalfFull}
use Rattle.rga_runs.specs.BlockRows.{items_of, numbers_of}
use Rattle.rga_runs.specs.Bounds.{AreBounds}
use Rattle.rga_runs.specs.Sums.{AreSums}
use Rattle.rga_runs.specs.Keyed.{look_in}
use Rattle.rga_runs.specs.KeyRows.{keys_in}
use Rattle.rga_runs.specs.Indexed.{IsHome, AreHome, AreKnown}
use Rattle.rga_runs.proofs.BlockLists.{length-items, items_at, items-set, numbers-set}
use Rattle.rga_runs.proofs.Chunks.{set_row, get_or_row, at_less, one_there}
use Rattle.rga_runs.proofs.Halves.{AreHalfFull-set}
use Rattle.rga_runs.proofs.Homes.{told, homes_set, home_grown}
use Rattle.rga_runs.proofs.Known.{known_set}
use Rattle.rga_runs.proofs.Low.{low_set}
use Rattle.rga_runs.proofs.Neighbours.{bounds-same}
use Rattle.rga_runs.proofs.Summed.{visible_among-within, few_seen, visible-raised}
use Rattle.rga_runs.proofs.Taken.{none_more}
use Rattle.rga_runs.proofs.row.grow.Goals as goal

pub returns : goal.returns
returns c =
    let r = c.args.row.now in
    let was = c.requires.indexed in
    let bs = r.blocks.items in
    let xs = items_of bs in
    let ns = numbers_of bs in
    let b = c.args.b in
    let j = c.args.j in
    let x = get_or xs b [] in
    let p = at_spot xs b j in
    let there : b < length xs = omega (arith, length-items bs, r.blocks.ok, c.requires.block) in
    let d = one_there x j c.requires.within in
    let old_block = c.index_mut.result.now in
    let some : b < length bs = omega (arith, r.blocks.ok, c.requires.block) in
    let at = c.index_mut.ensures.value in
    let e = c.grow.ensures.items d in
    let s = e.0 in
    let is : IsGrown (get_or x j d) s c.args.more = subst (λ (l : List Stretch). IsGrown (get_or l j d) s c.args.more) (sym (items_at bs b old_block some at)) e.1 in
    let new = set bs b c.grow.new.self in
    let items : items_of new ≡ set xs b (set x j s) = items-set bs b old_block c.grow.new.self (λ l. set l j s) some at e.2 in
    let numbers : numbers_of new ≡ ns = numbers-set bs b old_block c.grow.new.self some at c.grow.ensures.number in
    let row_is : row_of (items_of new) ≡ set (row_of xs) p s = ap row_of items ∙ set_row xs b j s there c.requires.within in
    let long : length (row_of (items_of new)) ≡ length (row_of xs) = ap length row_is ∙ length-set (row_of xs) p s in
    let look = look_in (keys_in r.keys) in
    let item = λ (z : Stretch). get_or_row xs b j z there c.requires.within in
    let old = get_or x j d in
    let more = c.args.more in
    let fits = c.requires.counter d in
    let none : (k : ℕ) → k < more → (f : Identifier) (m : ℕ) → look (later old.first (old.count + k)) ≡ told f m → f ≡ later old.first (old.count + k) → ⊥ =
    λ k few f m found same. was.known (later old.first (old.count + k)) f m (omega (arith, fits, few)) found (subst (λ z. All (IsOutside z) (row_of xs)) (sym same) (c.requires.new d k few)) in
    let own : IsHome look (get_or ns b 0) s = home_grown (keys_in r.keys) (get_or ns b 0) old s more is.first is.count fits none (was.homes b there j d c.requires.within) in
    let changed : AreSums c.raise.new.sums (set xs b (set x j s)) =
    c.raise.ensures xs (set x j s) there (visible-raised x j more d s c.requires.within is.visible) (subst (λ l. AreSums l xs) (sym c.deref_mut.ensures.value) was.sums) in
    let kept : take r.sums.len (c.raise.new.sums ++ drop (length c.raise.new.sums) r.sums.items) ≡ c.raise.new.sums =
    take_at c.raise.new.sums (drop (length c.raise.new.sums) r.sums.items) r.sums.len (omega (arith, c.raise.auto.sums, c.deref_mut.ensures.len)) in
    record {
      row = λ d2. (s, subst (λ (z : Stretch). IsGrown z s more) (get_or_default x j d d2 c.requires.within ∙ sym (item d2)) is, row_is);
      indexed = record {
        homes = subst (λ ys. AreHome look ys (numbers_of new)) (sym items) (subst (AreHome look (set xs b (set x j s))) (sym numbers)
            (homes_set look xs ns b (set x j s) there was.homes (All-set (IsHome look (get_or ns b 0)) x j s own (was.homes b there))));
        known = subst (AreKnown look) (sym row_is) (known_set look (row_of xs) p d s (at_less xs b j there c.requires.within) (is.first ∙ ap (λ (z : Stretch). z.first) (sym (item d)))
            (omega (arith, is.count, ap (λ (z : Stretch). z.count) (item d))) was.known);
        places = λ p less. ap (λ l. slice_get r.places.items (get_or l p 0)) numbers
            ∙ was.places p (omega (arith, less, length-set bs b c.grow.new.self));
        as_many = was.as_many;
        keyed = omega (arith, was.keyed, long);
        counted = omega (arith, was.counted, long);
        halves = subst AreHalfFull (sym items) (AreHalfFull-set xs b (set x j s) was.halves (omega (arith, length-set x j s)));
        bounds = subst (AreBounds r.bounds.items) (sym items) (bounds-same r.bounds.items xs b (set x j s) (λ m h. low_set m x j d s h c.requires.within is.first) was.bounds);
        sums = subst (λ l. AreSums l (items_of new)) (sym kept) (subst (AreSums c.raise.new.sums) (sym items) changed);
        few = was.few;
      };
      room = none_more c.args.row.now _ (long) (λ n room. record {
        paid = λ few. omega (arith, room.paid few, long);
        keys = λ few. omega (arith, room.keys few, long);
        blocks = room.blocks;
        places = room.places;
        few = room.few;
      });
    }

pub raise-requires : goal.raise-requires
raise-requires c = record {
  few = λ e less.
      let r = c.args.row.now in
      let was = c.requires.indexed in
      let xs = items_of r.blocks.items in
      let g = c.args.b / 32 in
      let d = one_there (get_or xs c.args.b []) c.args.j c.requires.within in
      let is = subst (λ l. AreSums l xs) (sym c.deref_mut.ensures.value) was.sums in
      omega (arith, is.sums g e less, visible_among-within xs g, few_seen r.blocks.items (omega (arith, was.few, r.blocks.ok)), c.requires.few d);
}
