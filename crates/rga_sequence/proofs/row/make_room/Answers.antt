-- The goals of `make_room` that are answered by hand.
use Rattle.std.proofs.Common.{◌≡◌, ℕ, ◌+◌, ◌<◌, [], refl, ap, take, drop, length, get_or, arith}
use Rattle.std.specs.Prelude.{insert, set, vec_len}
use Rattle.rga_sequence.specs.declared.row.Row.{Row}
use Rattle.rga_sequence.specs.Indexed.{blocks_in}
use Rattle.rga_sequence.proofs.Joined.{IsHalved, halved}
use Rattle.rga_sequence.proofs.Numbers.{length-items, block_there}
use Rattle.rga_sequence.proofs.Passing.{items_at}
use Rattle.rga_sequence.proofs.row.make_room.Goals as goal

split_full : (r new : Row) (q : ℕ) → q < vec_len r.blocks → length (get_or (blocks_in r) q []) ≡ 512
    → blocks_in new ≡ insert (set (blocks_in r) q (take 256 (get_or (blocks_in r) q []))) (q + 1) (drop 256 (get_or (blocks_in r) q [])) → IsHalved (blocks_in r) (blocks_in new) q
split_full r new q there full is = halved (blocks_in r) (blocks_in new) q (block_there r q there) full is

pub returns-then-len-lt-FULL : goal.returns-then-len-lt-FULL
returns-then-len-lt-FULL c =
    let b = c.index.result.now in
    let here = ap length (items_at c.args.row.now.blocks.items c.args.q b (omega (arith, c.args.row.now.blocks.ok, c.requires.block)) c.index.ensures) in
    record {
      block = c.requires.block;
      within = c.requires.within;
      free = omega (arith, here, b.elements.ok, c.len.ensures, c.if-len-lt-FULL.true);
      place = refl;
      elements = refl;
      indexed = c.requires.indexed;
      room = λ n room. room;
    }

pub returns-then-at-le-HALF : goal.returns-then-at-le-HALF
returns-then-at-le-HALF c =
    let new = c.split.new.row.blocks in
    let b = c.index.result.now in
    let here = ap length (items_at c.args.row.now.blocks.items c.args.q b (omega (arith, c.args.row.now.blocks.ok, c.requires.block)) c.index.ensures) in
    let h = split_full c.args.row.now c.split.new.row c.args.q c.requires.block (omega (arith, here, b.elements.ok, b.few, c.len.ensures, c.if-len-lt-FULL.false)) c.split.ensures.blocks in
    record {
      block = omega (arith, h.longer, length-items new.items, new.ok, block_there c.args.row.now c.args.q c.requires.block);
      within = omega (arith, h.low, c.if-at-le-HALF.true);
      free = omega (arith, h.low);
      place = h.place_low c.args.at;
      elements = h.same;
      indexed = c.split.ensures.indexed;
      room = c.split.ensures.room;
    }

pub returns-else-at-le-HALF : goal.returns-else-at-le-HALF
returns-else-at-le-HALF c =
    let new = c.split.new.row.blocks in
    let b = c.index.result.now in
    let here = ap length (items_at c.args.row.now.blocks.items c.args.q b (omega (arith, c.args.row.now.blocks.ok, c.requires.block)) c.index.ensures) in
    let h = split_full c.args.row.now c.split.new.row c.args.q c.requires.block (omega (arith, here, b.elements.ok, b.few, c.len.ensures, c.if-len-lt-FULL.false)) c.split.ensures.blocks in
    record {
      block = omega (arith, h.longer, length-items new.items, new.ok, block_there c.args.row.now c.args.q c.requires.block);
      within = omega (arith, h.high, c.requires.within, here, b.elements.ok, b.few);
      free = omega (arith, h.high);
      place = h.place_high c.args.at (omega (arith, c.if-at-le-HALF.false));
      elements = h.same;
      indexed = c.split.ensures.indexed;
      room = c.split.ensures.room;
    }
