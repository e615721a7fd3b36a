-- The goals of `give_behind` that are answered by hand.
use Rattle.std.proofs.Common.{◌≡◌, ℕ, suc, ◌+◌, ◌<◌, ◌≤◌, ◌++◌, ◌∙◌, [], List, sym, ap, subst, take, drop, length, get_or, get_or-take, length-append, length-take-le, arith}
use Rattle.std.specs.Prelude.{set}
use Rattle.std.specs.List.Sorted.{IsNonDecreasingBy}
use Rattle.std.proofs.lemmas.List.{take_at}
use Rattle.rga_runs.specs.declared.key.Key.{Key}
use Rattle.rga_runs.specs.declared.leaf.Leaf.{Leaf}
use Rattle.rga_runs.specs.Blocks.{AreHalfFull}
use Rattle.rga_runs.specs.Keyed.{rank}
use Rattle.rga_runs.specs.Leaves.{keys_of}
use Rattle.rga_runs.proofs.Chunks.{row, row-suc}
use Rattle.rga_runs.proofs.Giving.{AreHalfFull-given, is_given}
use Rattle.rga_runs.proofs.LeafRows.{length-keys, keys_len}
use Rattle.rga_runs.proofs.keys.give_behind.Goals as goal

-- ---- a leaf before those that have changed

same_leaf : (xs ys : List (List Key)) (b : ℕ) → take (b + 1) ys ≡ take (b + 1) xs → get_or ys b [] ≡ get_or xs b []
same_leaf xs ys b same =
    sym (get_or-take (b + 1) ys b [] (omega arith)) ∙ ap (λ (l : List (List Key)). get_or l b []) same ∙ get_or-take (b + 1) xs b [] (omega arith)

same_front : (xs ys : List (List Key)) (b : ℕ) → take (b + 1) ys ≡ take (b + 1) xs → length (row (take b ys)) ≡ length (row (take b xs))
same_front xs ys b same =
    let e : b + 1 ≡ suc b = omega arith in
    let all : length (row (take (suc b) ys)) ≡ length (row (take (suc b) xs)) =
    ap (λ n. length (row (take n ys))) (sym e) ∙ ap (λ (l : List (List Key)). length (row l)) same ∙ ap (λ n. length (row (take n xs))) e in
    omega (arith, all, row-suc ys b, row-suc xs b, ap length (same_leaf xs ys b same))

-- what the keys of leaves become
abbrev given : List Leaf → ℕ → ℕ → List (List Key)
given ls b at = set (set (keys_of ls) b (take at (get_or (keys_of ls) b []))) (b + 1) (drop at (get_or (keys_of ls) b []) ++ get_or (keys_of ls) (b + 1) [])

pub give_at-requires-clause-next : goal.give_at-requires-clause-next
give_at-requires-clause-next c = omega (arith, ap length c.deref_mut.ensures.value, c.split_full.new.keys.leaves.ok, c.split_full.ensures.leaf)

pub give_at-requires-clause-some : goal.give_at-requires-clause-some
give_at-requires-clause-some c = omega (arith, c.max-from.ensures, c.requires.least)

pub give_at-requires-clause-within : goal.give_at-requires-clause-within
give_at-requires-clause-within c =
    let xs = keys_of c.args.keys.now.leaves.items in
    let mid = c.split_full.new.keys in
    let leaf = same_leaf xs (keys_of mid.leaves.items) c.args.b c.split_full.ensures.before in
    let next = keys_len mid.leaves.items (c.args.b + 1) c.index.result.now (omega (arith, c.split_full.ensures.leaf, mid.leaves.ok)) c.index.ensures in
    let is = ap (λ (ls : List Leaf). length (get_or (keys_of ls) c.args.b [])) c.deref_mut.ensures.value in
    omega (arith, is, c.max-from.ensures, c.len.ensures, next, c.split_full.ensures.free, c.requires.most, ap length leaf, c.requires.full)

pub give_at-requires-clause-room : goal.give_at-requires-clause-room
give_at-requires-clause-room c =
    let xs = keys_of c.args.keys.now.leaves.items in
    let mid = c.split_full.new.keys in
    let leaf = same_leaf xs (keys_of mid.leaves.items) c.args.b c.split_full.ensures.before in
    let next = keys_len mid.leaves.items (c.args.b + 1) c.index.result.now (omega (arith, c.split_full.ensures.leaf, mid.leaves.ok)) c.index.ensures in
    omega (
      arith,
      ap (λ (ls : List Leaf). length (get_or (keys_of ls) c.args.b [])) c.deref_mut.ensures.value,
      ap (λ (ls : List Leaf). length (get_or (keys_of ls) (c.args.b + 1) [])) c.deref_mut.ensures.value,
      c.max-from.ensures,
      c.len.ensures,
      next,
      ap length leaf,
      c.requires.full,
    )

pub invariant_of-keys : goal.invariant_of-keys
invariant_of-keys c =
    let xs = keys_of c.args.keys.now.leaves.items in
    let mid = c.split_full.new.keys in
    let ls = mid.leaves in
    let ys = keys_of ls.items in
    let b = c.args.b in
    let at = c.max-from.result in
    let x = get_or ys b [] in
    let y = get_or ys (b + 1) [] in
    let leaf = same_leaf xs ys b c.split_full.ensures.before in
    let next = keys_len ls.items (b + 1) c.index.result.now (omega (arith, c.split_full.ensures.leaf, ls.ok)) c.index.ensures in
    let within : at < length x = omega (arith, c.max-from.ensures, c.len.ensures, next, c.split_full.ensures.free, c.requires.most, ap length leaf, c.requires.full) in
    let written = c.give_at.new.leaves in
    let rest = drop (length written) ls.items in
    let kept : take ls.len (written ++ rest) ≡ written = take_at written rest ls.len (omega (arith, c.give_at.auto.leaves, c.deref_mut.ensures.len)) in
    let is : keys_of (take ls.len (written ++ rest)) ≡ given ls.items b at = ap keys_of kept ∙ c.give_at.ensures ∙ ap (λ (l : List Leaf). given l b at) c.deref_mut.ensures.value in
    let there : b + 1 < length ys = omega (arith, c.split_full.ensures.leaf, length-keys ls.items, ls.ok) in
    let both = is_given ys (keys_of (take ls.len (written ++ rest))) b at there (omega (arith, within)) is in
    let least : 128 ≤ length (take at x) = omega (arith, length-take-le at x (omega (arith, within)), c.max-from.ensures, c.requires.least) in
    let more : length y ≤ length (drop at x ++ y) = omega (arith, length-append (drop at x) y) in
    record {
      rising = subst (IsNonDecreasingBy (λ (z : Key). rank z.first)) (sym both.same) mid.rising;
      halves = subst AreHalfFull (sym is) (AreHalfFull-given ys b (take at x) (drop at x ++ y) mid.halves least more);
      memory = mid.memory;
    }

pub returns : goal.returns
returns c =
    let b = c.args.b in
    let at = c.max-from.result in
    let xs = keys_of c.args.keys.now.leaves.items in
    let mid = c.split_full.new.keys in
    let ls = mid.leaves in
    let ys = keys_of ls.items in
    let before = c.split_full.ensures.before in
    let leaf = same_leaf xs ys b before in
    let next = keys_len ls.items (b + 1) c.index.result.now (omega (arith, c.split_full.ensures.leaf, ls.ok)) c.index.ensures in
    let there : b + 1 < length ys = omega (arith, c.split_full.ensures.leaf, length-keys ls.items, ls.ok) in
    let few : at < 256 = omega (arith, c.max-from.ensures, c.len.ensures, next, c.split_full.ensures.free, c.requires.most) in
    let written = c.give_at.new.leaves in
    let rest = drop (length written) ls.items in
    let kept : take ls.len (written ++ rest) ≡ written = take_at written rest ls.len (omega (arith, c.give_at.auto.leaves, c.deref_mut.ensures.len)) in
    let is : keys_of (take ls.len (written ++ rest)) ≡ given ls.items b at = ap keys_of kept ∙ c.give_at.ensures ∙ ap (λ (l : List Leaf). given l b at) c.deref_mut.ensures.value in
    let h = is_given ys (keys_of (take ls.len (written ++ rest))) b at there (omega (arith, few, ap length leaf, c.requires.full)) is in
    record {
      leaf = omega (arith, c.split_full.ensures.leaf);
      within = omega (arith, h.low, c.max-from.ensures);
      free = omega (arith, h.low, few);
      place = omega (arith, h.place, same_front xs ys b before);
      keys = h.same ∙ c.split_full.ensures.keys;
      room = c.split_full.ensures.room;
      spares = c.split_full.ensures.spares;
    }
