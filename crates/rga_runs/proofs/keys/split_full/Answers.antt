-- The goals of `split_full` that are answered by hand.
use Rattle.std.proofs.Common.{◌≡◌, ◌<◌, ◌∙◌, [], refl, ap, take, drop, length, get_or, arith}
use Rattle.rga_runs.specs.Leaves.{keys_of}
use Rattle.rga_runs.proofs.Chunks.{split_front}
use Rattle.rga_runs.proofs.Halves.{in_two}
use Rattle.rga_runs.proofs.LeafRows.{length-keys, keys_len}
use Rattle.rga_runs.proofs.keys.split_full.Goals as goal

pub returns-then-len-lt-FULL : goal.returns-then-len-lt-FULL
returns-then-len-lt-FULL c =
    let ls = c.args.keys.now.leaves in
    let leaf = c.index.result.now in
    let here = keys_len ls.items c.args.b leaf (omega (arith, c.requires.leaf, ls.ok)) c.index.ensures in
    record {
      leaf = c.requires.leaf;
      free = omega (arith, here, c.len.ensures, c.if-len-lt-FULL.true);
      before = refl;
      keys = refl;
      room = refl;
      spares = omega arith;
    }

pub split-requires-clause-full : goal.split-requires-clause-full
split-requires-clause-full c =
    let ls = c.args.keys.now.leaves in
    let leaf = c.index.result.now in
    let few = leaf.few in
    let here = keys_len ls.items c.args.b leaf (omega (arith, c.requires.leaf, ls.ok)) c.index.ensures in
    omega (arith, here, c.len.ensures, few, c.if-len-lt-FULL.false)

pub returns : goal.returns
returns c =
    let b = c.args.b in
    let ls = c.args.keys.now.leaves in
    let xs = keys_of ls.items in
    let x = get_or xs b [] in
    let leaf = c.index.result.now in
    let few = leaf.few in
    let here = keys_len ls.items c.args.b leaf (omega (arith, c.requires.leaf, ls.ok)) c.index.ensures in
    let full : length x ≡ 256 = omega (arith, here, c.len.ensures, few, c.if-len-lt-FULL.false) in
    let there : b < length xs = omega (arith, c.requires.leaf, length-keys ls.items, ls.ok) in
    let h = in_two xs (keys_of c.split.new.keys.leaves.items) b 128 there full (omega arith) c.split.ensures.leaves in
    record {
      leaf = omega (arith, c.split.ensures.len, c.requires.leaf);
      free = omega (arith, h.low);
      before = ap (take b) c.split.ensures.leaves ∙ split_front xs b (take 128 x) (drop 128 x) there;
      keys = h.same;
      room = c.split.ensures.room;
      spares = omega (arith, c.split.ensures.spares);
    }
