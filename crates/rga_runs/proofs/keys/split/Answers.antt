-- The goals of `split` that are answered by hand.
use Rattle.std.proofs.Common.{◌≡◌, ℕ, ◌+◌, ◌<◌, ◌≤◌, ◌∙◌, List, [], Bool, true, cond, sym, ap, subst, length, take, drop, get_or, length-drop, length-take-le, arith}
use Rattle.std.specs.Prelude.{is_ok, insert, set, vec_len}
use Rattle.std.specs.Option.{option_to_list}
use Rattle.std.specs.List.Sorted.{IsNonDecreasingBy}
use Rattle.std.proofs.lemmas.List.{take-append-drop}
use Rattle.rga_runs.specs.declared.key.Key.{Key}
use Rattle.rga_runs.specs.declared.leaf.Leaf.{Leaf}
use Rattle.rga_runs.specs.Blocks.{AreHalfFull}
use Rattle.rga_runs.specs.Keyed.{rank}
use Rattle.rga_runs.specs.Leaves.{keys_of, all_keys}
use Rattle.rga_runs.proofs.Chunks.{map-insert, row, split_row}
use Rattle.rga_runs.proofs.Halves.{full_paid, some_spare, AreHalfFull-split}
use Rattle.rga_runs.proofs.LeafRows.{length-keys, keys_at, keys-set}
use Rattle.rga_runs.proofs.keys.split.Goals as goal

pub unwrap-memory-requires : goal.unwrap-memory-requires
unwrap-memory-requires c =
    let ls = c.args.keys.now.leaves in
    let xs = keys_of ls.items in
    let there : c.args.b < length xs = omega (arith, c.requires.leaf, length-keys ls.items, ls.ok) in
    let paid = full_paid xs c.args.b c.args.keys.now.halves there c.requires.full in
    c.pop.ensures.variant.1 (some_spare (vec_len c.args.keys.now.spares) (length (row xs)) (vec_len ls) c.requires.room (omega (arith, paid, length-keys ls.items, ls.ok)))

-- what the leaves become
split_keys : (ls all : List Leaf) (b at cut : ℕ) (ok : Bool) (old low high : Leaf) → b < length ls → old ≡ get_or ls b old → at ≡ b + 1 → low.keys.items ≡ take cut old.keys.items → high.keys.items ≡ drop cut old.keys.items
    → all ≡ cond ok (insert (set ls b low) at high) (set ls b low) → ok ≡ true → keys_of all ≡ insert (set (keys_of ls) b (take cut (get_or (keys_of ls) b []))) (b + 1) (drop cut (get_or (keys_of ls) b []))
split_keys ls all b at cut ok old low high there is place lower upper made fits =
    ap keys_of made ∙ ap (λ t. keys_of (cond t (insert (set ls b low) at high) (set ls b low))) fits ∙ map-insert (λ (l : Leaf). l.keys.items) (set ls b low) at high
    ∙ (λ i. insert (keys-set ls b old low (take cut) there is lower i) (place i) ((upper ∙ ap (drop cut) (sym (keys_at ls b old there is))) i))

pub invariant_of-keys : goal.invariant_of-keys
invariant_of-keys c =
    let ls = c.args.keys.now.leaves in
    let xs = keys_of ls.items in
    let b = c.args.b in
    let x = get_or xs b [] in
    let cut = c.args.cut in
    let low = take cut x in
    let high = drop cut x in
    let there : b < length xs = omega (arith, c.requires.leaf, length-keys ls.items, ls.ok) in
    let l : length low ≡ cut = length-take-le cut x (omega (arith, c.requires.full, c.requires.most)) in
    let half : b + 1 < length xs → 128 ≤ length high = λ more. omega (arith, length-drop cut x, c.requires.full, c.requires.half (omega (arith, more, length-keys ls.items, ls.ok))) in
    let fewer : vec_len c.pop.new.self + 1 ≡ vec_len c.args.keys.now.spares = omega (arith, c.pop.ensures.len, ap (λ o. length (option_to_list o)) c.unwrap-memory.ensures) in
    let ok : is_ok c.insert.result ≡ true = c.insert.ensures.succeeds (omega (arith, c.args.keys.now.memory, fewer)) in
    let is = split_keys ls.items c.insert.new.self.items b _ cut _ c.index_mut.result.now c.split-upper.new.self c.split-upper.result (omega (arith, c.requires.leaf, ls.ok)) c.index_mut.ensures.value
    (omega (arith, c.requires.leaf, ls.ok, ls.small)) c.split-upper.ensures.keys c.split-upper.ensures.upper c.insert.ensures.items ok in
    let same : all_keys c.insert.new.self.items ≡ all_keys ls.items = ap row is ∙ split_row xs b low high there (sym (take-append-drop cut x)) in
    record {
      rising = subst (IsNonDecreasingBy (λ (k : Key). rank k.first)) (sym same) c.args.keys.now.rising;
      halves = subst AreHalfFull (sym is) (AreHalfFull-split xs b low high c.args.keys.now.halves there (omega (arith, l, c.requires.least)) half);
      memory = omega (arith, c.args.keys.now.memory, c.insert.ensures.len, ap (λ t. cond t (vec_len ls + 1) (vec_len ls)) ok, c.insert.ensures.capacity, fewer);
    }

pub returns-clause-leaves : goal.returns-clause-leaves
returns-clause-leaves c =
    let ls = c.args.keys.now.leaves in
    split_keys ls.items c.insert.new.self.items c.args.b _ c.args.cut _ c.index_mut.result.now c.split-upper.new.self c.split-upper.result (omega (arith, c.requires.leaf, ls.ok)) c.index_mut.ensures.value
    (omega (arith, c.requires.leaf, ls.ok, ls.small)) c.split-upper.ensures.keys c.split-upper.ensures.upper c.insert.ensures.items (ap is_ok c.unwrap.ensures)
