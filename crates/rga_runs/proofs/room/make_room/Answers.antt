-- The goals of `make_room` that are answered by hand.
use Rattle.std.proofs.Common.{◌≡◌, ℕ, ◌+◌, ◌<◌, [], refl, take, drop, length, get_or, arith}
use Rattle.std.specs.Prelude.{insert, set, vec_len}
use Rattle.rga_runs.specs.declared.row.Row.{Row}
use Rattle.rga_runs.specs.BlockRows.{items_of}
use Rattle.rga_runs.specs.Indexed.{HasRoom, HasPlace}
use Rattle.rga_runs.proofs.BlockLists.{length-items, items_len}
use Rattle.rga_runs.proofs.Halves.{IsInTwo, in_two}
use Rattle.rga_runs.proofs.room.make_room.Goals as goal

split_full : (r new : Row) (q cut : ℕ) → q < vec_len r.blocks → length (get_or (items_of r.blocks.items) q []) ≡ 256 → cut < 256
    → items_of new.blocks.items ≡ insert (set (items_of r.blocks.items) q (take cut (get_or (items_of r.blocks.items) q []))) (q + 1) (drop cut (get_or (items_of r.blocks.items) q []))
    → IsInTwo (items_of r.blocks.items) (items_of new.blocks.items) q cut
split_full r new q cut there full most is = in_two (items_of r.blocks.items) (items_of new.blocks.items) q cut (omega (arith, there, length-items r.blocks.items, r.blocks.ok)) full most is

-- where there is room already
placed : (r : Row) (n : ℕ) → HasRoom r (n + 1) → HasPlace r n
placed r n room = record {
  paid = λ few. omega (arith, few, room.paid (omega (arith, few)));
  keys = room.keys;
  blocks = room.blocks;
  places = room.places;
  few = room.few;
}

pub returns-then-len-lt-FULL : goal.returns-then-len-lt-FULL
returns-then-len-lt-FULL c =
    let x = c.index.result.now in
    let bs = c.args.row.now.blocks in
    let here = items_len bs.items c.args.q x (omega (arith, c.requires.block, bs.ok)) c.index.ensures in
    record {
      block = c.requires.block;
      within = c.requires.within;
      behind = λ some. some;
      free = omega (arith, here, c.len.ensures, c.if-len-lt-FULL.true);
      place = refl;
      row = refl;
      indexed = c.requires.indexed;
      room = λ n room. placed c.args.row.now n room;
    }

pub returns-then-at-cut : goal.returns-then-at-cut
returns-then-at-cut c =
    let new = c.split.new.row.blocks in
    let x = c.index.result.now in
    let few = x.few in
    let bs = c.args.row.now.blocks in
    let here = items_len bs.items c.args.q x (omega (arith, c.requires.block, bs.ok)) c.index.ensures in
    let h = split_full c.args.row.now c.split.new.row c.args.q c.kept_of-cut.result c.requires.block (omega (arith, here, c.len.ensures, few, c.if-len-lt-FULL.false)) c.kept_of-cut.ensures.most c.split.ensures.blocks in
    record {
      block = omega (arith, h.longer, length-items new.items, new.ok, length-items bs.items, bs.ok, c.requires.block);
      within = omega (arith, h.low, c.if-at-cut.true);
      behind = λ some. some;
      free = omega (arith, h.low, c.kept_of-cut.ensures.most);
      place = h.place_low c.args.at;
      row = h.same;
      indexed = c.split.ensures.indexed;
      room = c.split.ensures.room;
    }

pub returns-else-at-cut : goal.returns-else-at-cut
returns-else-at-cut c =
    let new = c.split.new.row.blocks in
    let x = c.index.result.now in
    let few = x.few in
    let bs = c.args.row.now.blocks in
    let here = items_len bs.items c.args.q x (omega (arith, c.requires.block, bs.ok)) c.index.ensures in
    let h = split_full c.args.row.now c.split.new.row c.args.q c.kept_of-cut.result c.requires.block (omega (arith, here, c.len.ensures, few, c.if-len-lt-FULL.false)) c.kept_of-cut.ensures.most c.split.ensures.blocks in
    record {
      block = omega (arith, h.longer, length-items new.items, new.ok, length-items bs.items, bs.ok, c.requires.block);
      within = omega (arith, h.high, c.requires.within, here, c.len.ensures, few);
      behind = λ some. omega (arith, c.if-at-cut.false);
      free = omega (arith, h.high, c.kept_of-cut.ensures.least);
      place = h.place_high c.args.at (omega (arith, c.if-at-cut.false));
      row = h.same;
      indexed = c.split.ensures.indexed;
      room = c.split.ensures.room;
    }
