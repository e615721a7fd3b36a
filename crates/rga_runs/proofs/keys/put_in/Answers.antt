-- The goals of `put_in` that are answered by hand.
use Rattle.std.proofs.Common.{◌≡◌, ◌<◌, ◌≤◌, ◌∙◌, [], sym, ap, subst, length, get_or, arith}
use Rattle.std.specs.Prelude.{insert, set}
use Rattle.std.specs.List.Sorted.{IsNonDecreasingBy}
use Rattle.std.proofs.lemmas.List.Sorted.{IsNonDecreasingBy-insert}
use Rattle.std.proofs.lemmas.List.Edits.{length-insert}
use Rattle.rga_runs.specs.declared.key.Key.{Key}
use Rattle.rga_runs.specs.Blocks.{AreHalfFull}
use Rattle.rga_runs.specs.Keyed.{rank}
use Rattle.rga_runs.specs.Leaves.{keys_of, all_keys, place_in}
use Rattle.rga_runs.proofs.Chunks.{row, insert_row, at_within}
use Rattle.rga_runs.proofs.Halves.{AreHalfFull-set}
use Rattle.rga_runs.proofs.LeafRows.{length-keys, keys-set}
use Rattle.rga_runs.proofs.keys.put_in.Goals as goal

pub invariant_of-keys : goal.invariant_of-keys
invariant_of-keys c =
    let old = c.args.keys.now.leaves.items in
    let mid = c.make_room-q.new.keys in
    let ls = mid.leaves in
    let xs = keys_of ls.items in
    let q = c.make_room-q.result.0 in
    let j = c.make_room-q.result.1 in
    let x = get_or xs q [] in
    let key = c.args.key in
    let there : q < length xs = omega (arith, c.make_room-q.ensures.leaf, length-keys ls.items, ls.ok) in
    let within = c.make_room-q.ensures.within in
    let n = place_in (keys_of old) c.args.b c.args.at in
    let leaves = set ls.items q c.insert.new.self in
    let keys_is : keys_of leaves ≡ set xs q (insert x j key) =
    keys-set ls.items q c.index_mut.result.now c.insert.new.self (λ l. insert l j key) (omega (arith, c.make_room-q.ensures.leaf, ls.ok)) c.index_mut.ensures.value c.insert.ensures in
    let small : n ≤ length (all_keys old) = at_within (keys_of old) c.args.b c.args.at (omega (arith, c.requires.leaf, length-keys old, c.args.keys.now.leaves.ok)) c.requires.within in
    let row_is : all_keys leaves ≡ insert (all_keys old) n key = ap row keys_is ∙ insert_row xs q j key there within ∙ (λ i. insert (c.make_room-q.ensures.keys i) (c.make_room-q.ensures.place i) key) in
    record {
      rising = subst (IsNonDecreasingBy (λ (k : Key). rank k.first)) (sym row_is) (IsNonDecreasingBy-insert (λ (k : Key). rank k.first) (all_keys old) n key c.args.keys.now.rising small c.requires.below c.requires.above);
      halves = subst AreHalfFull (sym keys_is) (AreHalfFull-set xs q (insert x j key) mid.halves (omega (arith, length-insert x j key within)));
      memory = mid.memory;
    }

pub returns-clause-keys : goal.returns-clause-keys
returns-clause-keys c =
    let mid = c.make_room-q.new.keys in
    let ls = mid.leaves in
    let xs = keys_of ls.items in
    let q = c.make_room-q.result.0 in
    let j = c.make_room-q.result.1 in
    let there : q < length xs = omega (arith, c.make_room-q.ensures.leaf, length-keys ls.items, ls.ok) in
    let keys_is : keys_of (set ls.items q c.insert.new.self) ≡ set xs q (insert (get_or xs q []) j c.args.key) =
    keys-set ls.items q c.index_mut.result.now c.insert.new.self (λ l. insert l j c.args.key) (omega (arith, c.make_room-q.ensures.leaf, ls.ok)) c.index_mut.ensures.value c.insert.ensures in
    ap row keys_is ∙ insert_row xs q j c.args.key there c.make_room-q.ensures.within ∙ (λ i. insert (c.make_room-q.ensures.keys i) (c.make_room-q.ensures.place i) c.args.key)
