-- The goals of `make_room` that are answered by hand.
use Rattle.std.proofs.Common.{◌≡◌, ℕ, ◌+◌, ◌<◌, [], refl, ap, take, drop, length, get_or, arith}
use Rattle.std.specs.Prelude.{insert, set, vec_len}
use Rattle.rga_runs.specs.declared.keys.Keys.{Keys}
use Rattle.rga_runs.specs.Leaves.{keys_of}
use Rattle.rga_runs.proofs.Halves.{IsInTwo, in_two}
use Rattle.rga_runs.proofs.LeafRows.{length-keys, keys_len}
use Rattle.rga_runs.proofs.keys.make_room.Goals as goal

split_full : (k new : Keys) (b cut : ℕ) → b < vec_len k.leaves → length (get_or (keys_of k.leaves.items) b []) ≡ 256 → cut < 256
    → keys_of new.leaves.items ≡ insert (set (keys_of k.leaves.items) b (take cut (get_or (keys_of k.leaves.items) b []))) (b + 1) (drop cut (get_or (keys_of k.leaves.items) b []))
    → IsInTwo (keys_of k.leaves.items) (keys_of new.leaves.items) b cut
split_full k new b cut there full most is = in_two (keys_of k.leaves.items) (keys_of new.leaves.items) b cut (omega (arith, there, length-keys k.leaves.items, k.leaves.ok)) full most is

pub returns-then-len-lt-FULL : goal.returns-then-len-lt-FULL
returns-then-len-lt-FULL c =
    let ls = c.args.keys.now.leaves in
    let leaf = c.index.result.now in
    let here = keys_len ls.items c.args.b leaf (omega (arith, c.requires.leaf, ls.ok)) c.index.ensures in
    record {
      leaf = c.requires.leaf;
      within = c.requires.within;
      free = omega (arith, here, c.len.ensures, c.if-len-lt-FULL.true);
      place = refl;
      keys = refl;
      room = refl;
      spares = omega arith;
    }

pub returns-then-ends_site : goal.returns-then-ends_site
returns-then-ends_site c =
    let e = c.give_behind.ensures in
    record {
      leaf = e.leaf;
      within = e.within;
      free = e.free;
      place = e.place;
      keys = e.keys;
      room = e.room;
      spares = e.spares;
    }

pub give_behind-requires-clause-next : goal.give_behind-requires-clause-next
give_behind-requires-clause-next c = omega (arith, c.if-ends_site.ensures.next, ap length c.deref.ensures.value, c.args.keys.now.leaves.ok)

pub give_behind-requires-clause-full : goal.give_behind-requires-clause-full
give_behind-requires-clause-full c =
    let ls = c.args.keys.now.leaves in
    let leaf = c.index.result.now in
    let few = leaf.few in
    let here = keys_len ls.items c.args.b leaf (omega (arith, c.requires.leaf, ls.ok)) c.index.ensures in
    omega (arith, here, c.len.ensures, few, c.if-len-lt-FULL.false)

pub give_behind-requires-clause-most : goal.give_behind-requires-clause-most
give_behind-requires-clause-most c =
    let ls = c.args.keys.now.leaves in
    let leaf = c.index.result.now in
    let few = leaf.few in
    let here = keys_len ls.items c.args.b leaf (omega (arith, c.requires.leaf, ls.ok)) c.index.ensures in
    omega (arith, here, c.len.ensures, few, c.if-ends_site.ensures.within, ap (λ d. length (get_or (keys_of d) c.args.b [])) c.deref.ensures.value)

pub returns-then-at-cut : goal.returns-then-at-cut
returns-then-at-cut c =
    let ls = c.args.keys.now.leaves in
    let leaf = c.index.result.now in
    let few = leaf.few in
    let here = keys_len ls.items c.args.b leaf (omega (arith, c.requires.leaf, ls.ok)) c.index.ensures in
    let h = split_full c.args.keys.now c.split.new.keys c.args.b c.kept_of-cut.result c.requires.leaf (omega (arith, here, c.len.ensures, few, c.if-len-lt-FULL.false)) c.kept_of-cut.ensures.most c.split.ensures.leaves in
    record {
      leaf = omega (arith, c.split.ensures.len, c.requires.leaf);
      within = omega (arith, h.low, c.if-at-cut.true);
      free = omega (arith, h.low, c.kept_of-cut.ensures.most);
      place = h.place_low c.args.at;
      keys = h.same;
      room = c.split.ensures.room;
      spares = omega (arith, c.split.ensures.spares);
    }

pub returns-else-at-cut : goal.returns-else-at-cut
returns-else-at-cut c =
    let ls = c.args.keys.now.leaves in
    let leaf = c.index.result.now in
    let few = leaf.few in
    let here = keys_len ls.items c.args.b leaf (omega (arith, c.requires.leaf, ls.ok)) c.index.ensures in
    let h = split_full c.args.keys.now c.split.new.keys c.args.b c.kept_of-cut.result c.requires.leaf (omega (arith, here, c.len.ensures, few, c.if-len-lt-FULL.false)) c.kept_of-cut.ensures.most c.split.ensures.leaves in
    record {
      leaf = omega (arith, c.split.ensures.len, c.requires.leaf);
      within = omega (arith, h.high, c.requires.within, here, c.len.ensures, few);
      free = omega (arith, h.high, c.kept_of-cut.ensures.least);
      place = h.place_high c.args.at (omega (arith, c.if-at-cut.false));
      keys = h.same;
      room = c.split.ensures.room;
      spares = omega (arith, c.split.ensures.spares);
    }
