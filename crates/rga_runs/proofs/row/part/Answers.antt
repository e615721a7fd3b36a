-- The goals of `part` that are answered by hand.
use Rattle.std.proofs.Common.{◌≡◌, ℕ, ◌<◌, ◌≤◌, ◌+◌, ◌-◌, ◌∙◌, [], List, not, sym, ap, subst, length, get_or, arith}
use Rattle.std.specs.Prelude.{insert, set, slice_get}
use Rattle.std.proofs.lemmas.List.Edits.{length-insert}
use Rattle.std.specs.Ordering.{is_lt}
use Rattle.std.proofs.lemmas.List.{take-set, length-set, get_or_default, get_or-set_same}
use Rattle.bg_types.specs.Identifier.{id_cmp}
use Rattle.rga_runs.specs.declared.stretch.Stretch.{Stretch}
use Rattle.rga_runs.specs.declared.block.Block.{Block}
use Rattle.rga_runs.specs.Changed.{IsParted}
use Rattle.rga_runs.specs.Typed.{later}
use Rattle.rga_runs.specs.Stretches.{AreApart}
use Rattle.rga_runs.specs.Blocks.{row_of, at_spot, AreHalfFull}
use Rattle.rga_runs.specs.BlockRows.{items_of, numbers_of}
use Rattle.rga_runs.specs.Bounds.{AreBounds}
use Rattle.rga_runs.specs.Sums.{AreSums}
use Rattle.rga_runs.specs.Keyed.{look_in}
use Rattle.rga_runs.specs.KeyRows.{keys_in}
use Rattle.rga_runs.specs.Indexed.{AreHome, AreKnown}
use Rattle.rga_runs.proofs.BlockLists.{length-items, items_there, items_at, items-set, length-numbers, numbers-set, number_there, few_stretches}
use Rattle.rga_runs.proofs.Chunks.{part_row, get_or_row, at_less, one_there}
use Rattle.rga_runs.proofs.Halves.{AreHalfFull-set}
use Rattle.rga_runs.proofs.Homes.{Gains}
use Rattle.rga_runs.proofs.Known.{homes_parted, known_parted}
use Rattle.rga_runs.proofs.Numbers.{few_numbers}
use Rattle.rga_runs.proofs.Low.{low_insert, low_set, low_at, later_above}
use Rattle.rga_runs.proofs.Neighbours.{bounds-same}
use Rattle.rga_runs.proofs.Summed.{sums-same, visible-parted}
use Rattle.rga_runs.proofs.Taken.{one_more}
use Rattle.rga_runs.proofs.row.part.Goals as goal

-- the stretch, where it stands once there is room behind it
moved_item : (xs ys : List (List Stretch)) (b j q at : ℕ) (d : Stretch) → b < length xs → j < length (get_or xs b []) → q < length ys → at ≤ length (get_or ys q []) → 0 < at
    → at_spot ys q at ≡ at_spot xs b (j + 1) → row_of ys ≡ row_of xs → get_or (get_or ys q []) (at - 1) d ≡ get_or (get_or xs b []) j d
moved_item xs ys b j q at d there within here inside some place same =
    let spot : at_spot ys q (at - 1) ≡ at_spot xs b j = omega (arith, place, some) in
    sym (get_or_row ys q (at - 1) d here (omega (arith, inside, some))) ∙ (λ i. get_or (same i) (spot i) d) ∙ get_or_row xs b j d there within

pub overflow_add-j : goal.overflow_add-j
overflow_add-j c =
    let bs = c.args.row.now.blocks in
    let x = one_there bs.items c.args.b (omega (arith, bs.ok, c.requires.block)) in
    let few = (get_or bs.items c.args.b x).few in
    omega (arith, c.requires.within, ap length (items_there bs.items c.args.b x (omega (arith, bs.ok, c.requires.block))), (get_or bs.items c.args.b x).stretches.ok, few)

pub part-first-requires-clause-there : goal.part-first-requires-clause-there
part-first-requires-clause-there c =
    let bs = c.make_room-q.new.row.blocks in
    let here = items_at bs.items c.make_room-q.result.0 c.index_mut.result.now (omega (arith, bs.ok, c.make_room-q.ensures.block)) c.index_mut.ensures.value in
    omega (arith, c.make_room-q.ensures.within, c.make_room-q.ensures.behind (omega arith), ap length here)

pub part-first-requires-clause-within : goal.part-first-requires-clause-within
part-first-requires-clause-within c = λ d.
    let old = c.args.row.now in
    let mid = c.make_room-q.new.row in
    let xs = items_of old.blocks.items in
    let ys = items_of mid.blocks.items in
    let q = c.make_room-q.result.0 in
    let at = c.make_room-q.result.1 in
    let here = items_at mid.blocks.items q c.index_mut.result.now (omega (arith, mid.blocks.ok, c.make_room-q.ensures.block)) c.index_mut.ensures.value in
    let item = moved_item xs ys c.args.b c.args.j q at d (omega (arith, length-items old.blocks.items, old.blocks.ok, c.requires.block)) c.requires.within
    (omega (arith, length-items mid.blocks.items, mid.blocks.ok, c.make_room-q.ensures.block)) c.make_room-q.ensures.within (c.make_room-q.ensures.behind (omega arith)) c.make_room-q.ensures.place c.make_room-q.ensures.row in
    subst (λ (l : List Stretch). c.args.k < (get_or l (at - 1) d).count) here (subst (λ (s : Stretch). c.args.k < s.count) (sym item) (c.requires.inside d))

pub overflow_add-row : goal.overflow_add-row
overflow_add-row c =
    let mid = c.make_room-q.new.row in
    let room = c.make_room-q.ensures.room 0 c.requires.room in
    omega (arith, c.make_room-q.ensures.indexed.counted, few_stretches mid.blocks.items, mid.blocks.ok, room.few)

pub add-requires-clause-few : goal.add-requires-clause-few
add-requires-clause-few c =
    let mid = c.make_room-q.new.row in
    let bs = mid.blocks.items in
    let ns = numbers_of bs in
    let q = c.make_room-q.result.0 in
    let some : q < length bs = omega (arith, mid.blocks.ok, c.make_room-q.ensures.block) in
    let new = set bs q c.part-first.new.self in
    let numbers : numbers_of new ≡ ns = numbers-set bs q c.index_mut.result.now c.part-first.new.self some c.index_mut.ensures.value c.part-first.ensures.number in
    let len_ns : length ns ≡ length bs = length-numbers bs in
    let number_is : (c.index.result.now).number ≡ get_or ns q 0 =
    ap (λ (b : Block). b.number) c.index.ensures ∙ sym (number_there new q c.index.result.now (omega (arith, some, length-set bs q c.part-first.new.self))) ∙ ap (λ r. get_or r q 0) numbers in
    let many : length mid.places.items ≡ length ns = omega (arith, len_ns, mid.blocks.ok, mid.places.ok, c.make_room-q.ensures.indexed.as_many) in
    let below = few_numbers ns mid.places.items q (λ p h. c.make_room-q.ensures.indexed.places p (omega (arith, len_ns, h))) many (omega (arith, len_ns, mid.blocks.ok, c.make_room-q.ensures.block)) in
    let room = c.make_room-q.ensures.room 0 c.requires.room in
    omega (arith, number_is, below, len_ns, mid.blocks.ok, room.few)

pub add-requires-clause-room : goal.add-requires-clause-room
add-requires-clause-room c =
    let room = c.make_room-q.ensures.room 0 c.requires.room in
    λ none. omega (arith, none, c.make_room-q.ensures.indexed.keyed, room.keys (omega (arith, none)))

pub returns : goal.returns
returns c =
    let old = c.args.row.now in
    let mid = c.make_room-q.new.row in
    let was = c.make_room-q.ensures.indexed in
    let bs = mid.blocks.items in
    let xs = items_of old.blocks.items in
    let ys = items_of bs in
    let ns = numbers_of bs in
    let q = c.make_room-q.result.0 in
    let at = c.make_room-q.result.1 in
    let i = at - 1 in
    let y = get_or ys q [] in
    let p = at_spot xs c.args.b c.args.j in
    let behind : 0 < at = c.make_room-q.ensures.behind (omega arith) in
    let old_there : c.args.b < length xs = omega (arith, length-items old.blocks.items, old.blocks.ok, c.requires.block) in
    let there : q < length ys = omega (arith, length-items bs, mid.blocks.ok, c.make_room-q.ensures.block) in
    let within : i < length y = omega (arith, c.make_room-q.ensures.within, behind) in
    let d = one_there y i within in
    let item = λ (z : Stretch). moved_item xs ys c.args.b c.args.j q at z old_there c.requires.within there c.make_room-q.ensures.within behind c.make_room-q.ensures.place c.make_room-q.ensures.row in
    let some : q < length bs = omega (arith, mid.blocks.ok, c.make_room-q.ensures.block) in
    let block = c.index_mut.result.now in
    let value = c.index_mut.ensures.value in
    let e = c.part-first.ensures.items d in
    let low = e.0 in
    let rest = e.1 in
    let is : IsParted (get_or y i d) low rest c.args.k = subst (λ (l : List Stretch). IsParted (get_or l i d) low rest c.args.k) (sym (items_at bs q block some value)) e.2 in
    let first = e.3 in
    let next : i + 1 ≡ at = omega (arith, behind) in
    let new = set bs q c.part-first.new.self in
    let items : items_of new ≡ set ys q (insert (set y i low) (i + 1) rest) = items-set bs q block c.part-first.new.self (λ l. insert (set l i low) (i + 1) rest) some value e.4 in
    let numbers : numbers_of new ≡ ns = numbers-set bs q block c.part-first.new.self some value c.part-first.ensures.number in
    let row_is : row_of (items_of new) ≡ insert (set (row_of ys) (at_spot ys q i) low) (at_spot ys q i + 1) rest = ap row_of items ∙ part_row ys q i low rest there within in
    let less = at_less ys q i there within in
    let long_set : length (set (row_of ys) (at_spot ys q i) low) ≡ length (row_of ys) = length-set (row_of ys) (at_spot ys q i) low in
    let long : length (row_of (items_of new)) ≡ length (row_of ys) + 1 =
    ap length row_is ∙ length-insert (set (row_of ys) (at_spot ys q i) low) (at_spot ys q i + 1) rest (omega (arith, long_set, less)) ∙ omega (arith, long_set) in
    let spot : at_spot ys q i ≡ p = omega (arith, c.make_room-q.ensures.place, behind) in
    let old_look = look_in (keys_in mid.keys) in
    let look = look_in (keys_in c.add.new.keys) in
    let number_is : (c.index.result.now).number ≡ get_or ns q 0 =
    ap (λ (b : Block). b.number) c.index.ensures ∙ sym (number_there new q c.index.result.now (omega (arith, some, length-set bs q c.part-first.new.self))) ∙ ap (λ r. get_or r q 0) numbers in
    let gains : Gains look old_look rest.first (get_or ns q 0) = subst (λ f. Gains look old_look f (get_or ns q 0)) (sym first) (subst (Gains look old_look c.part-first.result) number_is c.add.ensures.looks) in
    let apart : AreApart (row_of ys) = subst AreApart (sym c.make_room-q.ensures.row) c.requires.apart in
    let count = ap (λ n. n + rest.count) is.count ∙ is.rest_count in
    let begins = is.rest_first ∙ ap (λ n. later (get_or y i d).first n) (sym is.count) in
    let homes = homes_parted look old_look ys ns q i d low rest there within apart gains is.first begins count was.homes in
    let row_item : get_or (row_of ys) (at_spot ys q i) d ≡ get_or y i d = get_or_row ys q i d there within in
    let known = known_parted look old_look (get_or ns q 0) (row_of ys) (at_spot ys q i) d low rest less gains (is.first ∙ ap (λ (z : Stretch). z.first) (sym row_item))
    (begins ∙ ap (λ (z : Stretch). later z.first low.count) (sym row_item)) (count ∙ ap (λ (z : Stretch). z.count) (sym row_item)) was.known in
    let z = insert (set y i low) (i + 1) rest in
    let longer : length z ≡ length y + 1 = omega (arith, length-insert (set y i low) (i + 1) rest (omega (arith, length-set y i low, within)), length-set y i low) in
    record {
      block = c.make_room-q.ensures.block;
      within = omega (arith, ap (λ zs. length (get_or zs q [])) items, ap length (get_or-set_same ys q z [] there), longer, c.make_room-q.ensures.within);
      behind = behind;
      place = ap (λ zs. at_spot zs q at) items ∙ ap (λ zs. length (row_of zs) + at) (take-set ys q z) ∙ omega (arith, c.make_room-q.ensures.place);
      row = λ d2. (
        low,
        rest,
        subst (λ (s : Stretch). IsParted s low rest c.args.k) (get_or_default y i d d2 within ∙ item d2 ∙ sym (get_or_row xs c.args.b c.args.j d2 old_there c.requires.within)) is,
        row_is ∙ (λ t. insert (set (c.make_room-q.ensures.row t) (spot t) low) (spot t + 1) rest),
      );
      indexed = record {
        homes = subst (λ zs. AreHome look zs (numbers_of new)) (sym items) (subst (AreHome look (set ys q (insert (set y i low) (i + 1) rest))) (sym numbers) homes);
        known = subst (AreKnown look) (sym row_is) known;
        places = λ p less. ap (λ r. slice_get mid.places.items (get_or r p 0)) numbers
            ∙ was.places p (omega (arith, less, length-set bs q c.part-first.new.self));
        as_many = was.as_many;
        keyed = omega (arith, c.add.ensures.len, was.keyed, long);
        counted = omega (arith, was.counted, long);
        halves = subst AreHalfFull (sym items) (AreHalfFull-set ys q (insert (set y i low) (i + 1) rest) was.halves (omega (arith, longer)));
        bounds = subst (AreBounds mid.bounds.items) (sym items) (bounds-same mid.bounds.items ys q z
            (λ m h. low_insert m (set y i low) (i + 1) rest (low_set m y i d low h within is.first) (ap (λ f. not (is_lt (id_cmp f m))) is.rest_first ∙ later_above m (get_or y i d).first c.args.k (low_at m y i d h within)))
            was.bounds);
        sums = subst (AreSums mid.sums.items) (sym items) (sums-same mid.sums.items ys q z there (visible-parted y i d low rest within is.visible) was.sums);
        few = was.few;
      };
      room = one_more c.args.row.now _ (omega (arith, long, ap length c.make_room-q.ensures.row)) (λ n paid.
          let room = c.make_room-q.ensures.room n paid in
          record {
            paid = λ few. omega (arith, room.paid few, long);
            keys = λ few. omega (arith, room.keys (omega (arith, few, c.add.ensures.spares)), long, c.add.ensures.room);
            blocks = room.blocks;
            places = room.places;
            few = room.few;
          });
    }
