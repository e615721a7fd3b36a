-- The goals of `add` that are answered by hand.
use Rattle.std.proofs.Common.{◌≡◌, ◌<◌, ◌≤◌, ◌++◌, ◌∷◌, ◌∙◌, ℕ, [], List, cond, Some, length, get_or, sym, ap, subst, arith, rules}
use Rattle.std.specs.Prelude.{vec_len}
use Rattle.std.specs.Option.{option_to_list}
use Rattle.std.specs.List.Sorted.{IsNonDecreasingBy}
use Rattle.std.proofs.lemmas.List.Sorted.{IsNonDecreasingBy-short}
use Rattle.std.proofs.lemmas.List.Edits.{length-insert}
use Rattle.std.proofs.lemmas.List.{nil_from_length}
use Rattle.rga_runs.specs.declared.key.Key.{Key}
use Rattle.rga_runs.specs.declared.leaf.Leaf.{Leaf}
use Rattle.rga_runs.specs.Blocks.{AreHalfFull}
use Rattle.rga_runs.specs.Keyed.{rank, look_in, reaches}
use Rattle.rga_runs.specs.Leaves.{keys_of, all_keys, place_in}
use Rattle.rga_runs.proofs.Chunks.{at_within, row}
use Rattle.rga_runs.proofs.Halves.{some_spare}
use Rattle.rga_runs.proofs.LeafRows.{Gained, length-keys, put_keys}
use Rattle.rga_runs.proofs.keys.add.Goals as goal

-- the first leaf, which has the key
first_leaf : (old new : List Leaf) (leaf : Leaf) (key : Key) → length old ≡ 0 → new ≡ old ++ leaf ∷ [] → leaf.keys.items ≡ key ∷ [] → keys_of new ≡ (key ∷ []) ∷ []
first_leaf old new leaf key none made is = ap keys_of (made ∙ ap (λ l. l ++ leaf ∷ []) (nil_from_length old none)) ∙ ap (λ l. l ∷ []) is

pub unwrap-memory-requires : goal.unwrap-memory-requires
unwrap-memory-requires c =
    let k = c.args.keys.now in
    let zero : vec_len k.leaves ≡ 0 = search rules in
    c.pop.ensures.variant.1 (some_spare (vec_len k.spares) (length (all_keys k.leaves.items)) (vec_len k.leaves) c.requires.room (omega (arith, zero)))

pub push_reserved-requires : goal.push_reserved-requires
push_reserved-requires c =
    let k = c.args.keys.now in
    omega (arith, k.memory, c.pop.ensures.len, ap (λ o. length (option_to_list o)) c.unwrap-memory.ensures)

pub invariant_of-keys : goal.invariant_of-keys
invariant_of-keys c =
    let k = c.args.keys.now in
    let zero : vec_len k.leaves ≡ 0 = search rules in
    let key = c.of-key.result in
    let lists = first_leaf k.leaves.items c.push_reserved.new.self.items c.lone.result key (omega (arith, zero, k.leaves.ok)) c.push_reserved.ensures.items c.lone.ensures in
    record {
      rising = subst (IsNonDecreasingBy (λ (z : Key). rank z.first)) (sym (ap row lists)) (IsNonDecreasingBy-short (λ (z : Key). rank z.first) (key ∷ []) (omega arith));
      halves = subst AreHalfFull (sym lists) (λ q less. absurd (omega (arith, less)));
      memory = omega (arith, k.memory, c.push_reserved.ensures.len, c.push_reserved.ensures.capacity, c.pop.ensures.len, ap (λ o. length (option_to_list o)) c.unwrap-memory.ensures);
    }

pub returns-then-is_empty-clause-looks : goal.returns-then-is_empty-clause-looks
returns-then-is_empty-clause-looks c = λ q fits.
    let k = c.args.keys.now in
    let key = c.of-key.result in
    let zero : vec_len k.leaves ≡ 0 = search rules in
    let none : all_keys k.leaves.items ≡ [] = ap all_keys (nil_from_length k.leaves.items (omega (arith, zero, k.leaves.ok))) in
    let lists = first_leaf k.leaves.items c.push_reserved.new.self.items c.lone.result key (omega (arith, zero, k.leaves.ok)) c.push_reserved.ensures.items c.lone.ensures in
    let all : Gained (key ∷ []) [] c.args.id c.args.number =
    put_keys [] 0 key c.args.id c.args.number c.of-key.ensures.first c.of-key.ensures.number (omega arith) (λ i d less. absurd (omega (arith, less))) (λ i d from less. absurd (omega (arith, less))) in
    ap (λ xs. look_in (row xs) q) lists ∙ all q fits
    ∙ ap (λ l. cond (reaches c.args.id q (look_in l q)) (Some (c.args.id, c.args.number)) (look_in l q)) (sym none)

pub returns-then-is_empty-clause-len : goal.returns-then-is_empty-clause-len
returns-then-is_empty-clause-len c =
    let k = c.args.keys.now in
    let zero : vec_len k.leaves ≡ 0 = search rules in
    let none : all_keys k.leaves.items ≡ [] = ap all_keys (nil_from_length k.leaves.items (omega (arith, zero, k.leaves.ok))) in
    let lists = first_leaf k.leaves.items c.push_reserved.new.self.items c.lone.result c.of-key.result (omega (arith, zero, k.leaves.ok)) c.push_reserved.ensures.items c.lone.ensures in
    omega (arith, ap (λ xs. length (row xs)) lists, ap length none)

pub put_in-requires-clause-below : goal.put_in-requires-clause-below
put_in-requires-clause-below c = λ i d less.
    let b = c.spot-b.result.0 in
    let j = c.spot-b.result.1 in
    let below = subst (λ (l : List Leaf). (i : ℕ) (d : Key) → i < place_in (keys_of l) b j → rank (get_or (all_keys l) i d).first ≤ rank c.args.id) c.deref.ensures.value c.spot-b.ensures.below in
    omega (arith, below i d less, ap rank c.of-key.ensures.first)

pub put_in-requires-clause-above : goal.put_in-requires-clause-above
put_in-requires-clause-above c = λ i d from less.
    let b = c.spot-b.result.0 in
    let j = c.spot-b.result.1 in
    let above = subst (λ (l : List Leaf). (i : ℕ) (d : Key) → place_in (keys_of l) b j ≤ i → i < length (all_keys l) → rank c.args.id < rank (get_or (all_keys l) i d).first) c.deref.ensures.value c.spot-b.ensures.above in
    omega (arith, above i d from less, ap rank c.of-key.ensures.first)

pub returns-else-is_empty-clause-looks : goal.returns-else-is_empty-clause-looks
returns-else-is_empty-clause-looks c = λ q fits.
    let ls = c.args.keys.now.leaves in
    let b = c.spot-b.result.0 in
    let j = c.spot-b.result.1 in
    let is = c.deref.ensures.value in
    let there : b < length (keys_of ls.items) = omega (arith, c.spot-b.ensures.leaf, ap length is, length-keys ls.items) in
    let within = subst (λ (l : List Leaf). j ≤ length (get_or (keys_of l) b [])) is c.spot-b.ensures.within in
    let below = subst (λ (l : List Leaf). (i : ℕ) (d : Key) → i < place_in (keys_of l) b j → rank (get_or (all_keys l) i d).first ≤ rank c.args.id) is c.spot-b.ensures.below in
    let above = subst (λ (l : List Leaf). (i : ℕ) (d : Key) → place_in (keys_of l) b j ≤ i → i < length (all_keys l) → rank c.args.id < rank (get_or (all_keys l) i d).first) is c.spot-b.ensures.above in
    ap (λ l. look_in l q) c.put_in.ensures.keys
    ∙ put_keys (all_keys ls.items) (place_in (keys_of ls.items) b j) c.of-key.result c.args.id c.args.number c.of-key.ensures.first c.of-key.ensures.number (at_within (keys_of ls.items) b j there within) below above q fits

pub returns-else-is_empty-clause-len : goal.returns-else-is_empty-clause-len
returns-else-is_empty-clause-len c =
    let ls = c.args.keys.now.leaves in
    let b = c.spot-b.result.0 in
    let j = c.spot-b.result.1 in
    let is = c.deref.ensures.value in
    let there : b < length (keys_of ls.items) = omega (arith, c.spot-b.ensures.leaf, ap length is, length-keys ls.items) in
    let within = subst (λ (l : List Leaf). j ≤ length (get_or (keys_of l) b [])) is c.spot-b.ensures.within in
    ap length c.put_in.ensures.keys ∙ length-insert (all_keys ls.items) (place_in (keys_of ls.items) b j) c.of-key.result (at_within (keys_of ls.items) b j there within)
