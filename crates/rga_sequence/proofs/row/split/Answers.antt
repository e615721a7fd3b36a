-- The goals of `split` that are answered by hand.
use Rattle.std.proofs.Common.{◌≡◌, ℕ, List, ◌<◌, ◌≤◌, ◌+◌, ◌*◌, ◌/◌, ◌++◌, ◌∙◌, ◌∷◌, [], Some, cond, true, sym, ap, subst, length, take, drop, get_or, length-append, length-drop, length-take-le, arith}
use Rattle.std.specs.Prelude.{insert, set, slice_get, IsSome, is_ok, is_some, vec_len}
use Rattle.std.specs.List.{AllByRecursion}
use Rattle.std.specs.Option.{option_to_list}
use Rattle.std.proofs.lemmas.List.{take-append-drop, take_at}
use Rattle.bg_types.specs.Identifier.{Identifier}
use Rattle.rga_tree.specs.declared.element.Element.{Element}
use Rattle.rga_sequence.specs.declared.block.Block.{Block}
use Rattle.rga_sequence.specs.Blocks.{joined}
use Rattle.rga_sequence.specs.BlockRows.{items_of, numbers_of, has, home_of, AreHalfFull}
use Rattle.rga_sequence.specs.Indexed.{blocks_in}
use Rattle.rga_sequence.specs.Bounds.{AreBounds, AreBoundsBelow}
use Rattle.rga_sequence.specs.Sums.{AreSums, AreSumsBelow}
use Rattle.rga_sequence.specs.Grouped.{home_in}
use Rattle.rga_sequence.proofs.Halves.{full_paid, AreHalfFull-split}
use Rattle.rga_sequence.proofs.Homes.{id_eq}
use Rattle.rga_sequence.proofs.Joined.{split_high}
use Rattle.rga_sequence.proofs.Members.{all_have, has_drop, is_some-home, all_apart, halves_apart}
use Rattle.rga_sequence.proofs.Neighbours.{bounds-split}
use Rattle.rga_sequence.proofs.Passing.{items_there}
use Rattle.rga_sequence.proofs.Places.{Inverts, inserted_known, inserted_apart, inserted_before}
use Rattle.rga_sequence.proofs.Split.{has_joined, home_split-at}
use Rattle.rga_sequence.proofs.Summed.{sums-split}
use Rattle.rga_sequence.proofs.Grown.{seen_le}
use Rattle.rga_tree.proofs.Interface.{split_joined, split_long, seen_all-joined}
use Rattle.rga_sequence.proofs.Numbers.{length-items, length-numbers, block_there, as_many_numbers}
use Rattle.rga_sequence.proofs.row.split.Goals as goal

-- the block after the one that was split has its upper half
upper_half : (xs : List (List Element)) (q : ℕ) (new : List Block) (b : Block) → q < length xs
    → items_of new ≡ insert (set xs q (take 256 (get_or xs q []))) (q + 1) (drop 256 (get_or xs q [])) → b ≡ get_or new (q + 1) b → b.elements.items ≡ drop 256 (get_or xs q [])
upper_half xs q new b there items at =
    let low = take 256 (get_or xs q []) in
    let high = drop 256 (get_or xs q []) in
    let longer : q + 1 < length new = omega (arith, length-items new, ap length items, split_long xs q low high there, there) in
    ap (λ (d : Block). d.elements.items) at ∙ sym (items_there new (q + 1) b longer) ∙ ap (λ r. get_or r (q + 1) []) items ∙ split_high xs q low high there

pub unwrap-lower-requires : goal.unwrap-lower-requires
unwrap-lower-requires c =
    let xs = blocks_in c.args.row.now in
    let paid = full_paid xs c.args.q c.requires.indexed.halves (block_there c.args.row.now c.args.q c.requires.block) c.requires.full in
    c.pop.ensures.variant.1 (omega (arith, paid, c.requires.room.paid, length-items c.args.row.now.blocks.items, c.args.row.now.blocks.ok))

pub rehome-requires-clause-known : goal.rehome-requires-clause-known
rehome-requires-clause-known c =
    let bs = c.args.row.now.blocks.items in
    let xs = items_of bs in
    let q = c.args.q in
    let there = block_there c.args.row.now q c.requires.block in
    let moved_is = c.deref.ensures.value ∙ upper_half xs q c.split_at.new.blocks.items c.index.result.now there c.split_at.ensures.items c.index.ensures in
    let at_home : Identifier → Type 0 = λ k. IsSome (home_in id_eq c.args.row.now.index k) in
    let all : AllByRecursion (λ (e : Element). at_home e.id) (drop 256 (get_or xs q [])) = all_have at_home _ (λ k inside.
    ap is_some (c.requires.indexed.homes k) ∙ is_some-home xs (numbers_of bs) k (as_many_numbers bs) ∙ has_joined xs q k there (has_drop 256 (get_or xs q []) k inside)) in
    subst (λ es. AllByRecursion (λ (e : Element). at_home e.id) es) (sym moved_is) all

pub rehome-requires-clause-few : goal.rehome-requires-clause-few
rehome-requires-clause-few c =
    let fewer : vec_len c.pop.new.self + 1 ≡ vec_len c.args.row.now.spares = omega (arith, c.pop.ensures.len, ap (λ o. length (option_to_list o)) c.unwrap-lower.ensures) in
    omega (arith, c.len-number.ensures, fewer, c.requires.room.few)

pub renumber-requires : goal.renumber-requires
renumber-requires c =
    let bs = c.args.row.now.blocks.items in
    let ns = numbers_of bs in
    let q = c.args.q in
    let len_ns : length ns ≡ length bs = length-numbers bs in
    let places = c.args.row.now.places.items in
    let many : length places ≡ length ns = omega (arith, len_ns, c.args.row.now.blocks.ok, c.args.row.now.places.ok, c.requires.indexed.as_many) in
    let inverts : Inverts ns places = λ p h. c.requires.indexed.places p (omega (arith, len_ns, h)) in
    let within : q + 1 ≤ length ns = omega (arith, len_ns, c.args.row.now.blocks.ok, c.requires.block) in
    let count : c.len-number.result ≡ length ns = omega (arith, c.len-number.ensures, c.args.row.now.blocks.ok, len_ns) in
    let numbers_is : numbers_of c.deref-2.result.now ≡ insert ns (q + 1) (length ns) = ap numbers_of c.deref-2.ensures.value ∙ c.split_at.ensures.numbers ∙ ap (insert ns (q + 1)) count in
    let ok : is_ok c.push.result ≡ true = ap is_ok c.unwrap.ensures in
    let places_is : c.deref_mut.result.now ≡ places ++ c.len-number.result ∷ [] =
    c.deref_mut.ensures.value ∙ c.push.ensures.items ∙ ap (λ b. cond b (places ++ c.len-number.result ∷ []) places) ok in
    let longer : length c.deref-2.result.now ≡ length ns + 1 = omega (arith, ap length c.deref-2.ensures.value, c.split_at.new.blocks.ok, c.split_at.ensures.len, c.args.row.now.blocks.ok, len_ns) in
    record {
      known = λ p few.
          let less = inserted_known ns places (q + 1) p inverts many within (omega (arith, longer, few)) in
          omega (arith, less, ap (λ r. get_or r p 0) numbers_is, ap length places_is, length-append places (c.len-number.result ∷ []), many);
      apart = λ p r few less same.
          inserted_apart ns places (q + 1) p r inverts many within (omega (arith, longer, few)) (omega (arith, longer, less))
          (sym (ap (λ n. get_or n p 0) numbers_is) ∙ same ∙ ap (λ n. get_or n r 0) numbers_is);
      before = λ p less.
          (λ i. slice_get (places_is i) (get_or (numbers_is i) p 0)) ∙ inserted_before ns places (q + 1) p (length ns) c.len-number.result inverts within less;
      from = omega (arith, longer, within);
    }

pub returns : goal.returns
returns c =
    let bs = c.args.row.now.blocks.items in
    let xs = items_of bs in
    let ns = numbers_of bs in
    let q = c.args.q in
    let x = get_or xs q [] in
    let low = take 256 x in
    let high = drop 256 x in
    let there = block_there c.args.row.now q c.requires.block in
    let new = c.split_at.new.blocks.items in
    let moved_is = c.deref.ensures.value ∙ upper_half xs q new c.index.result.now there c.split_at.ensures.items c.index.ensures in
    let number = c.len-number.result in
    let numbered : q < length ns = omega (arith, as_many_numbers bs, there) in
    let halved : x ≡ low ++ high = sym (take-append-drop 256 x) in
    let items = c.split_at.ensures.items in
    let l : length low ≡ 256 = length-take-le 256 x (omega (arith, c.requires.full)) in
    let h : length high ≡ 256 = omega (arith, length-drop 256 x, c.requires.full) in
    let ok : is_ok c.push.result ≡ true = ap is_ok c.unwrap.ensures in
    let pushed : vec_len c.push.new.self ≡ vec_len c.args.row.now.places + 1 = c.push.ensures.len ∙ ap (λ b. cond b (vec_len c.args.row.now.places + 1) (vec_len c.args.row.now.places)) ok in
    let written = c.renumber.new.places in
    let rest = drop (length written) c.push.new.self.items in
    let kept : take c.push.new.self.len (written ++ rest) ≡ written = take_at written rest c.push.new.self.len (omega (arith, c.renumber.auto.places, c.deref_mut.ensures.len)) in
    let left = drop (length c.renew.new.bounds) c.add.new.bounds.items in
    let renewed : take c.add.new.bounds.len (c.renew.new.bounds ++ left) ≡ c.renew.new.bounds = take_at c.renew.new.bounds left c.add.new.bounds.len (omega (arith, c.renew.auto.bounds, c.deref_mut-2.ensures.len)) in
    let same = ap length (ap joined c.split_at.ensures.items ∙ split_joined xs q low high there halved) in
    let fewer : vec_len c.pop.new.self + 1 ≡ vec_len c.args.row.now.spares = omega (arith, c.pop.ensures.len, ap (λ o. length (option_to_list o)) c.unwrap-lower.ensures) in
    record {
      blocks = items;
      indexed = record {
        grouped = c.rehome.ensures.grouped;
        homes = λ k. c.rehome.ensures.home k ∙ (λ i. cond (has k (moved_is i)) (Some number) (c.requires.indexed.homes k i))
            ∙ sym (home_split-at xs ns q number low high k there numbered halved (halves_apart xs q 256 there c.requires.distinct) (all_apart xs c.requires.distinct))
            ∙ (λ i. home_of (sym items i) (sym c.split_at.ensures.numbers i) k);
        places = λ p less. (λ i. slice_get (kept i) (get_or (numbers_of (sym c.deref-2.ensures.value i)) p 0)) ∙ c.renumber.ensures p (omega (arith, less, ap length c.deref-2.ensures.value));
        as_many = omega (arith, pushed, c.split_at.ensures.len, c.requires.indexed.as_many);
        halves = subst AreHalfFull (sym items) (AreHalfFull-split xs q low high c.requires.indexed.halves there (omega (arith, l)) (omega (arith, h)));
        bounds = subst (λ ms. AreBounds ms (items_of new)) (sym renewed) (subst (λ r. AreBounds c.renew.new.bounds (items_of r)) c.deref-3.ensures.value c.renew.ensures);
        sums = subst (λ r. AreSums c.renew-2.new.sums.items (items_of r)) c.deref-4.ensures.value c.renew-2.ensures;
      };
      room = λ n room. record {
        paid = omega (arith, room.paid, same, c.split_at.ensures.len, fewer);
        index = c.rehome.ensures.room n room.index;
        blocks = omega (arith, room.blocks, c.split_at.ensures.len, c.split_at.ensures.capacity, fewer);
        places = omega (arith, room.places, c.push.ensures.capacity, c.split_at.ensures.len, fewer);
        few = omega (arith, room.few, c.split_at.ensures.len, fewer);
      };
    }

pub renew-requires : goal.renew-requires
renew-requires c =
    let xs = items_of c.args.row.now.blocks.items in
    let q = c.args.q in
    let x = get_or xs q [] in
    let halves = insert (set xs q (take 256 x)) (q + 1) (drop 256 x) in
    let ms = c.args.row.now.bounds in
    let from = 32 * c.min-from.result in
    let there = block_there c.args.row.now q c.requires.block in
    let before : AreBoundsBelow from ms.items halves = bounds-split ms.items xs q from (take 256 x) (drop 256 x) there (omega (arith, c.min-from.ensures)) c.requires.indexed.bounds in
    let few : from ≤ 32 * length ms.items = omega (arith, c.min-from.ensures, c.len.ensures, ms.ok) in
    let added : AreBoundsBelow from c.add.new.bounds.items halves = c.add.ensures from halves few before in
    subst (λ r. AreBoundsBelow from r (items_of c.deref-3.result.now)) (sym c.deref_mut-2.ensures.value)
    (subst (AreBoundsBelow from c.add.new.bounds.items) (sym (ap items_of c.deref-3.ensures.value ∙ c.split_at.ensures.items)) added)

pub renew-requires-2 : goal.renew-requires-2
renew-requires-2 c =
    let xs = items_of c.args.row.now.blocks.items in
    let q = c.args.q in
    let x = get_or xs q [] in
    let low = take 256 x in
    let high = drop 256 x in
    let there = block_there c.args.row.now q c.requires.block in
    let read : items_of c.deref-4.result.now ≡ insert (set xs q low) (q + 1) high = ap items_of c.deref-4.ensures.value ∙ c.split_at.ensures.items in
    let same = ap joined read ∙ split_joined xs q low high there (sym (take-append-drop 256 x)) in
    record {
      few = omega (arith, seen_all-joined (items_of c.deref-4.result.now), seen_le (joined (items_of c.deref-4.result.now)), ap length same, c.requires.room.paid, c.requires.room.few);
      whole = omega (arith, c.requires.indexed.sums.whole, ap length read, split_long xs q low high there, length-items c.deref-4.result.now);
      before = subst (AreSumsBelow (q / 32) c.args.row.now.sums.items) (sym read) (sums-split c.args.row.now.sums.items xs q low high there c.requires.indexed.sums);
    }
