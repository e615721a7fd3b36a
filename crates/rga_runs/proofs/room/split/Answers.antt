-- The goals of `split` that are answered by hand.
use Rattle.std.proofs.Common.{◌≡◌, ℕ, List, ◌<◌, ◌≤◌, ◌+◌, ◌*◌, ◌/◌, ◌++◌, ◌∙◌, ◌∷◌, [], cond, true, sym, ap, subst, length, take, drop, get_or, length-append, length-drop, length-take-le, arith}
use Rattle.std.specs.Prelude.{All, insert, set, slice_get, is_ok, vec_len}
use Rattle.std.specs.Option.{option_to_list}
use Rattle.std.proofs.lemmas.List.{take-append-drop, take_at}
use Rattle.std.proofs.lemmas.List.Elements.{All-drop}
use Rattle.rga_runs.specs.declared.stretch.Stretch.{Stretch}
use Rattle.rga_runs.specs.declared.block.Block.{Block}
use Rattle.rga_runs.specs.declared.row.Row.{Row}
use Rattle.rga_runs.specs.Stretches.{IsOutside, AreApart}
use Rattle.rga_runs.specs.Blocks.{row_of, AreHalfFull}
use Rattle.rga_runs.specs.BlockRows.{items_of, numbers_of}
use Rattle.rga_runs.specs.Bounds.{AreBounds, AreBoundsBelow, AreBoundsBut}
use Rattle.rga_runs.specs.Sums.{AreSums, AreSumsBut}
use Rattle.rga_runs.specs.Keyed.{look_in}
use Rattle.rga_runs.specs.KeyRows.{keys_in}
use Rattle.rga_runs.specs.Indexed.{IsHome, AreHome, AreKnown}
use Rattle.rga_runs.proofs.Apart.{apart_upper}
use Rattle.rga_runs.proofs.BlockLists.{length-items, length-numbers, as_many_numbers, items_there}
use Rattle.rga_runs.proofs.Chunks.{split_row, split_high, split_long}
use Rattle.rga_runs.proofs.Halves.{full_paid, some_spare, AreHalfFull-split}
use Rattle.rga_runs.proofs.Homes.{homes_halved}
use Rattle.rga_runs.proofs.Neighbours.{bounds-split}
use Rattle.rga_runs.proofs.Summed.{sums-split, few_seen}
use Rattle.rga_runs.proofs.Numbers.{Inverts, inserted_known, inserted_apart, inserted_before}
use Rattle.rga_runs.proofs.room.split.Goals as goal

block_there : (r : Row) (q : ℕ) → q < vec_len r.blocks → q < length (items_of r.blocks.items)
block_there r q there = omega (arith, there, length-items r.blocks.items, r.blocks.ok)

-- the block after the one that was split has its upper part
upper_part : (xs : List (List Stretch)) (q cut : ℕ) (new : List Block) (b : Block) → q < length xs
    → items_of new ≡ insert (set xs q (take cut (get_or xs q []))) (q + 1) (drop cut (get_or xs q [])) → b ≡ get_or new (q + 1) b → b.stretches.items ≡ drop cut (get_or xs q [])
upper_part xs q cut new b there items at =
    let low = take cut (get_or xs q []) in
    let high = drop cut (get_or xs q []) in
    let longer : q + 1 < length new = omega (arith, length-items new, ap length items, split_long xs q low high there, there) in
    ap (λ (d : Block). d.stretches.items) at ∙ sym (items_there new (q + 1) b longer) ∙ ap (λ r. get_or r (q + 1) []) items ∙ split_high xs q low high there

pub unwrap-lower-requires : goal.unwrap-lower-requires
unwrap-lower-requires c =
    let xs = items_of c.args.row.now.blocks.items in
    let paid = full_paid xs c.args.q c.requires.indexed.halves (block_there c.args.row.now c.args.q c.requires.block) c.requires.full in
    let r = c.args.row.now in
    let few : vec_len r.spares ≡ 0 → length (row_of xs) < 128 * vec_len r.blocks = λ none. omega (arith, none, c.requires.room.paid (omega (arith, none))) in
    c.pop.ensures.variant.1 (some_spare (vec_len r.spares) (length (row_of xs)) (vec_len r.blocks) few (omega (arith, paid, length-items r.blocks.items, r.blocks.ok)))

pub rehome-requires-clause-homes : goal.rehome-requires-clause-homes
rehome-requires-clause-homes c =
    let bs = c.args.row.now.blocks.items in
    let xs = items_of bs in
    let q = c.args.q in
    let there = block_there c.args.row.now q c.requires.block in
    let moved_is = c.deref.ensures.value ∙ upper_part xs q c.args.cut c.split_at.new.blocks.items c.index.result.now there c.split_at.ensures.items c.index.ensures in
    let n = get_or (numbers_of bs) q 0 in
    let P : Stretch → Type 0 = IsHome (look_in (keys_in c.args.row.now.keys)) n in
    (n, subst (All P) (sym moved_is) (All-drop P c.args.cut (get_or xs q []) (c.requires.indexed.homes q there)))

pub rehome-requires-clause-apart : goal.rehome-requires-clause-apart
rehome-requires-clause-apart c =
    let xs = items_of c.args.row.now.blocks.items in
    let q = c.args.q in
    let there = block_there c.args.row.now q c.requires.block in
    let moved_is = c.deref.ensures.value ∙ upper_part xs q c.args.cut c.split_at.new.blocks.items c.index.result.now there c.split_at.ensures.items c.index.ensures in
    subst AreApart (sym moved_is) (apart_upper xs q c.args.cut there c.requires.apart)

pub rehome-requires-clause-few : goal.rehome-requires-clause-few
rehome-requires-clause-few c =
    let fewer : vec_len c.pop.new.self + 1 ≡ vec_len c.args.row.now.spares = omega (arith, c.pop.ensures.len, ap (λ o. length (option_to_list o)) c.unwrap-lower.ensures) in
    omega (arith, c.len-number.ensures, fewer, c.requires.room.few)

pub renumber-requires : goal.renumber-requires
renumber-requires c =
    let bs = c.args.row.now.blocks.items in
    let ns = numbers_of bs in
    let q = c.args.q in
    let len_ns : length ns ≡ length bs = length-numbers bs in
    let places = c.args.row.now.places.items in
    let many : length places ≡ length ns = omega (arith, len_ns, c.args.row.now.blocks.ok, c.args.row.now.places.ok, c.requires.indexed.as_many) in
    let inverts : Inverts ns places = λ p h. c.requires.indexed.places p (omega (arith, len_ns, h)) in
    let within : q + 1 ≤ length ns = omega (arith, len_ns, c.args.row.now.blocks.ok, c.requires.block) in
    let count : c.len-number.result ≡ length ns = omega (arith, c.len-number.ensures, c.args.row.now.blocks.ok, len_ns) in
    let numbers_is : numbers_of c.deref-2.result.now ≡ insert ns (q + 1) (length ns) = ap numbers_of c.deref-2.ensures.value ∙ c.split_at.ensures.numbers ∙ ap (insert ns (q + 1)) count in
    let ok : is_ok c.push.result ≡ true = ap is_ok c.unwrap.ensures in
    let places_is : c.deref_mut.result.now ≡ places ++ c.len-number.result ∷ [] =
    c.deref_mut.ensures.value ∙ c.push.ensures.items ∙ ap (λ b. cond b (places ++ c.len-number.result ∷ []) places) ok in
    let longer : length c.deref-2.result.now ≡ length ns + 1 = omega (arith, ap length c.deref-2.ensures.value, c.split_at.new.blocks.ok, c.split_at.ensures.len, c.args.row.now.blocks.ok, len_ns) in
    record {
      known = λ p few.
          let less = inserted_known ns places (q + 1) p inverts many within (omega (arith, longer, few)) in
          omega (arith, less, ap (λ r. get_or r p 0) numbers_is, ap length places_is, length-append places (c.len-number.result ∷ []), many);
      apart = λ p r few less same.
          inserted_apart ns places (q + 1) p r inverts many within (omega (arith, longer, few)) (omega (arith, longer, less))
          (sym (ap (λ n. get_or n p 0) numbers_is) ∙ same ∙ ap (λ n. get_or n r 0) numbers_is);
      before = λ p less.
          (λ i. slice_get (places_is i) (get_or (numbers_is i) p 0)) ∙ inserted_before ns places (q + 1) p (length ns) c.len-number.result inverts within less;
      from = omega (arith, longer, within);
    }

pub returns : goal.returns
returns c =
    let r = c.args.row.now in
    let bs = r.blocks.items in
    let xs = items_of bs in
    let ns = numbers_of bs in
    let q = c.args.q in
    let x = get_or xs q [] in
    let cut = c.args.cut in
    let low = take cut x in
    let high = drop cut x in
    let there = block_there r q c.requires.block in
    let new = c.split_at.new.blocks.items in
    let moved_is = c.deref.ensures.value ∙ upper_part xs q c.args.cut new c.index.result.now there c.split_at.ensures.items c.index.ensures in
    let number = c.len-number.result in
    let numbered : q < length ns = omega (arith, as_many_numbers bs, there) in
    let halved : x ≡ low ++ high = sym (take-append-drop cut x) in
    let items = c.split_at.ensures.items in
    let old_look = look_in (keys_in r.keys) in
    let look = look_in (keys_in c.rehome.new.keys) in
    let l : length low ≡ cut = length-take-le cut x (omega (arith, c.requires.full, c.requires.most)) in
    let half : q + 1 < length xs → 128 ≤ length high = λ more. omega (arith, length-drop cut x, c.requires.full, c.requires.half (omega (arith, more, length-items bs, r.blocks.ok))) in
    let ok : is_ok c.push.result ≡ true = ap is_ok c.unwrap.ensures in
    let pushed : vec_len c.push.new.self ≡ vec_len r.places + 1 = c.push.ensures.len ∙ ap (λ b. cond b (vec_len r.places + 1) (vec_len r.places)) ok in
    let written = c.renumber.new.places in
    let rest = drop (length written) c.push.new.self.items in
    let kept : take c.push.new.self.len (written ++ rest) ≡ written = take_at written rest c.push.new.self.len (omega (arith, c.renumber.auto.places, c.deref_mut.ensures.len)) in
    let left = drop (length c.renew.new.bounds) c.add.new.bounds.items in
    let renewed : take c.add.new.bounds.len (c.renew.new.bounds ++ left) ≡ c.renew.new.bounds = take_at c.renew.new.bounds left c.add.new.bounds.len (omega (arith, c.renew.auto.bounds, c.deref_mut-3.ensures.len)) in
    let row_is : row_of (items_of new) ≡ row_of xs = ap row_of items ∙ split_row xs q low high there halved in
    let same = ap length row_is in
    let fewer : vec_len c.pop.new.self + 1 ≡ vec_len r.spares = omega (arith, c.pop.ensures.len, ap (λ o. length (option_to_list o)) c.unwrap-lower.ensures) in
    let upper : All (IsHome look number) high = subst (All (IsHome look number)) moved_is c.rehome.ensures.homes in
    let others : (s : Stretch) (n : ℕ) → All (λ t. IsOutside t.first s) high → IsHome old_look n s → IsHome look n s =
    λ s n out home. c.rehome.ensures.others s n (subst (All (λ t. IsOutside t.first s)) (sym moved_is) out) home in
    let homes : AreHome look (insert (set xs q low) (q + 1) high) (insert ns (q + 1) number) = homes_halved look old_look xs ns q number low high there numbered halved c.requires.apart c.requires.indexed.homes others upper in
    record {
      blocks = items;
      indexed = record {
        homes = subst (λ ys. AreHome look ys (numbers_of new)) (sym items) (subst (AreHome look (insert (set xs q low) (q + 1) high)) (sym c.split_at.ensures.numbers) homes);
        known = subst (AreKnown look) (sym row_is) (c.rehome.ensures.known (row_of xs) c.requires.indexed.known);
        places = λ p less. (λ i. slice_get (kept i) (get_or (numbers_of (sym c.deref-2.ensures.value i)) p 0)) ∙ c.renumber.ensures p (omega (arith, less, ap length c.deref-2.ensures.value));
        as_many = omega (arith, pushed, c.split_at.ensures.len, c.requires.indexed.as_many);
        keyed = omega (arith, c.rehome.ensures.len, c.requires.indexed.keyed, same);
        counted = omega (arith, c.requires.indexed.counted, same);
        halves = subst AreHalfFull (sym items) (AreHalfFull-split xs q low high c.requires.indexed.halves there (omega (arith, l, c.requires.least)) half);
        bounds = subst (λ ms. AreBounds ms (items_of new)) (sym renewed) (subst (λ r. AreBounds c.renew.new.bounds (items_of r)) c.deref-4.ensures.value c.renew.ensures);
        sums = subst (λ l. AreSums c.add-2.new.sums.items (items_of l)) c.deref-6.ensures.value c.add-2.ensures;
        few = omega (arith, c.requires.room.few, c.split_at.ensures.len, fewer);
      };
      room = λ n room. record {
        paid = λ few. omega (arith, room.paid (omega (arith, few, fewer)), same, c.split_at.ensures.len, fewer);
        keys = λ few. omega (arith, room.keys (omega (arith, few, c.rehome.ensures.spares)), same, c.rehome.ensures.leaves, c.rehome.ensures.spares);
        blocks = omega (arith, room.blocks, c.split_at.ensures.len, c.split_at.ensures.capacity, fewer);
        places = omega (arith, room.places, c.push.ensures.capacity, c.split_at.ensures.len, fewer);
        few = omega (arith, room.few, c.split_at.ensures.len, fewer);
      };
    }

pub lower_behind-requires : goal.lower_behind-requires
lower_behind-requires c =
    let xs = items_of c.args.row.now.blocks.items in
    let q = c.args.q in
    let x = get_or xs q [] in
    let there = block_there c.args.row.now q c.requires.block in
    let ms = c.args.row.now.bounds in
    let but = bounds-split ms.items xs q (take c.args.cut x) (drop c.args.cut x) there (sym (take-append-drop c.args.cut x)) c.requires.indexed.bounds in
    subst (λ r. AreBoundsBut (q / 32 + 1) r (items_of c.deref-3.result.now)) (sym c.deref_mut-2.ensures.value)
    (subst (AreBoundsBut (q / 32 + 1) ms.items) (sym (ap items_of c.deref-3.ensures.value ∙ c.split_at.ensures.items)) but)

pub renew-requires : goal.renew-requires
renew-requires c =
    let ms = c.args.row.now.bounds in
    let ys = items_of c.split_at.new.blocks.items in
    let low = c.lower_behind.new.bounds in
    let left = drop (length low) ms.items in
    let kept : take ms.len (low ++ left) ≡ low = take_at low left ms.len (omega (arith, c.lower_behind.auto.bounds, c.deref_mut-2.ensures.len)) in
    let from = 32 * c.min-from.result in
    let bounds : AreBounds low ys = subst (λ r. AreBounds low (items_of r)) c.deref-3.ensures.value c.lower_behind.ensures in
    let few : from ≤ 32 * length (take ms.len (low ++ left)) = omega (arith, c.min-from.ensures, c.len.ensures, ap length kept, c.lower_behind.auto.bounds, c.deref_mut-2.ensures.len, ms.ok) in
    let before : AreBoundsBelow from (take ms.len (low ++ left)) ys = subst (λ r. AreBoundsBelow from r ys) (sym kept) (λ p d under within. bounds p d within) in
    subst (λ r. AreBoundsBelow from r (items_of c.deref-4.result.now)) (sym c.deref_mut-3.ensures.value)
    (subst (λ r. AreBoundsBelow from c.add.new.bounds.items (items_of r)) (sym c.deref-4.ensures.value) (c.add.ensures from ys few before))

pub move_on-requires : goal.move_on-requires
move_on-requires c =
    let r = c.args.row.now in
    let xs = items_of r.blocks.items in
    let q = c.args.q in
    let x = get_or xs q [] in
    let low = take c.args.cut x in
    let high = drop c.args.cut x in
    let there = block_there r q c.requires.block in
    let fewer : vec_len c.pop.new.self + 1 ≡ vec_len r.spares = omega (arith, c.pop.ensures.len, ap (λ o. length (option_to_list o)) c.unwrap-lower.ensures) in
    let read : items_of c.deref-5.result.now ≡ insert (set xs q low) (q + 1) high = ap items_of c.deref-5.ensures.value ∙ c.split_at.ensures.items in
    let many : length c.deref-5.result.now ≡ vec_len r.blocks + 1 = omega (arith, ap length c.deref-5.ensures.value, c.split_at.new.blocks.ok, c.split_at.ensures.len) in
    let but = sums-split r.sums.items xs q low high there (sym (take-append-drop c.args.cut x)) c.requires.indexed.sums in
    record {
      few = omega (arith, few_seen c.deref-5.result.now (omega (arith, many, fewer, c.requires.room.few)));
      sums = subst (λ l. AreSumsBut (q / 32) 0 l (items_of c.deref-5.result.now)) (sym c.deref_mut-4.ensures.value) (subst (AreSumsBut (q / 32) 0 r.sums.items) (sym read) but);
    }

pub add-requires-2 : goal.add-requires-2
add-requires-2 c =
    let r = c.args.row.now in
    let fewer : vec_len c.pop.new.self + 1 ≡ vec_len r.spares = omega (arith, c.pop.ensures.len, ap (λ o. length (option_to_list o)) c.unwrap-lower.ensures) in
    let many : length c.deref-6.result.now ≡ vec_len r.blocks + 1 = omega (arith, ap length c.deref-6.ensures.value, c.split_at.new.blocks.ok, c.split_at.ensures.len) in
    let moved = c.move_on.new.sums in
    let left = drop (length moved) r.sums.items in
    let kept : take r.sums.len (moved ++ left) ≡ moved = take_at moved left r.sums.len (omega (arith, c.move_on.auto.sums, c.deref_mut-4.ensures.len)) in
    record {
      few = omega (arith, few_seen c.deref-6.result.now (omega (arith, many, fewer, c.requires.room.few)));
      sums = subst (λ l. AreSums l (items_of c.deref-6.result.now)) (sym kept)
          (subst (λ l. AreSums moved (items_of l)) (c.deref-5.ensures.value ∙ sym c.deref-6.ensures.value) c.move_on.ensures);
    }
