-- The goals of `renew` that are answered by hand.
use Rattle.std.proofs.Common.{◌≡◌, ◌-◌, ◌<◌, ◌≤◌, ◌∙◌, ◌∷◌, ℕ, zero, suc, [], List, Some, None, length, take, get_or, refl, sym, ap, subst, arith}
use Rattle.std.specs.Prelude.{set}
use Rattle.std.specs.List.Sorted.{IsNonDecreasingBy}
use Rattle.std.proofs.lemmas.List.{length-set}
use Rattle.bg_types.specs.Identifier.{Identifier}
use Rattle.rga_runs.specs.declared.key.Key.{Key}
use Rattle.rga_runs.specs.declared.leaf.Leaf.{Leaf}
use Rattle.rga_runs.specs.Blocks.{AreHalfFull}
use Rattle.rga_runs.specs.Keyed.{rank, look_in}
use Rattle.rga_runs.specs.Leaves.{keys_of, all_keys, place_in}
use Rattle.rga_runs.proofs.Chunks.{row, at, at_within, set_row}
use Rattle.rga_runs.proofs.Halves.{AreHalfFull-set}
use Rattle.rga_runs.proofs.Homes.{told}
use Rattle.rga_runs.proofs.LeafRows.{length-keys, keys_at, keys-set, found_some, found_first, renew_keys, rising_set}
use Rattle.rga_runs.proofs.keys.renew.Goals as goal

-- where a key is found, there are leaves
some_leaves : (ls : List Leaf) (q : Identifier) (n : ℕ) → look_in (all_keys ls) q ≡ Some (q, n) → 0 < length ls
some_leaves [] q n is = let both : None ≡ told q n = is in absurd cc
some_leaves (l ∷ ls) q n is = omega arith

-- it stands behind another, or is the first of all
behind_one : (xs : List (List Key)) (b j : ℕ) → 0 < at xs b j → (j ≡ 0 → b ≡ 0) → 0 < j
behind_one xs b zero some front = let first = ap (λ n. length (row (take n xs))) (front refl) in absurd (omega (arith, some, first))
behind_one xs b (suc j) some front = omega arith

pub spot_behind-b-requires-clause-some : goal.spot_behind-b-requires-clause-some
spot_behind-b-requires-clause-some c =
    let ls = c.args.keys.now.leaves in
    omega (arith, ap length c.deref.ensures.value, some_leaves ls.items c.args.id c.requires.there.0 c.requires.there.1)

pub overflow_sub-at : goal.overflow_sub-at
overflow_sub-at c =
    let k = c.args.keys.now in
    let ls = k.leaves in
    let xs = keys_of ls.items in
    let all = all_keys ls.items in
    let id = c.args.id in
    let b = c.spot_behind-b.result.0 in
    let j = c.spot_behind-b.result.1 in
    let is = c.deref.ensures.value in
    let there : b < length xs = omega (arith, c.spot_behind-b.ensures.leaf, ap length is, length-keys ls.items) in
    let within = subst (λ (l : List Leaf). j ≤ length (get_or (keys_of l) b [])) is c.spot_behind-b.ensures.within in
    let below = subst (λ (l : List Leaf). (i : ℕ) (d : Key) → i < place_in (keys_of l) b j → rank (get_or (all_keys l) i d).first ≤ rank id) is c.spot_behind-b.ensures.below in
    let above = subst (λ (l : List Leaf). (i : ℕ) (d : Key) → place_in (keys_of l) b j ≤ i → i < length (all_keys l) → rank id < rank (get_or (all_keys l) i d).first) is c.spot_behind-b.ensures.above in
    let n = place_in xs b j in
    let some : 0 < n = found_some all id n c.requires.there.0 above c.requires.there.1 in
    let behind : 0 < j = behind_one xs b j some c.spot_behind-b.ensures.front in
    let inside : j - 1 < length (get_or xs b []) = omega (arith, within, behind) in
    omega (arith, behind)

pub write-requires : goal.write-requires
write-requires c =
    let k = c.args.keys.now in
    let ls = k.leaves in
    let xs = keys_of ls.items in
    let all = all_keys ls.items in
    let id = c.args.id in
    let b = c.spot_behind-b.result.0 in
    let j = c.spot_behind-b.result.1 in
    let is = c.deref.ensures.value in
    let there : b < length xs = omega (arith, c.spot_behind-b.ensures.leaf, ap length is, length-keys ls.items) in
    let within = subst (λ (l : List Leaf). j ≤ length (get_or (keys_of l) b [])) is c.spot_behind-b.ensures.within in
    let below = subst (λ (l : List Leaf). (i : ℕ) (d : Key) → i < place_in (keys_of l) b j → rank (get_or (all_keys l) i d).first ≤ rank id) is c.spot_behind-b.ensures.below in
    let above = subst (λ (l : List Leaf). (i : ℕ) (d : Key) → place_in (keys_of l) b j ≤ i → i < length (all_keys l) → rank id < rank (get_or (all_keys l) i d).first) is c.spot_behind-b.ensures.above in
    let n = place_in xs b j in
    let some : 0 < n = found_some all id n c.requires.there.0 above c.requires.there.1 in
    let behind : 0 < j = behind_one xs b j some c.spot_behind-b.ensures.front in
    let here = keys_at ls.items b c.index_mut.result.now (omega (arith, c.spot_behind-b.ensures.leaf, ap length is)) c.index_mut.ensures.value in
    omega (arith, within, behind, ap length here)

pub invariant_of-keys : goal.invariant_of-keys
invariant_of-keys c =
    let k = c.args.keys.now in
    let ls = k.leaves in
    let xs = keys_of ls.items in
    let all = all_keys ls.items in
    let id = c.args.id in
    let b = c.spot_behind-b.result.0 in
    let j = c.spot_behind-b.result.1 in
    let is = c.deref.ensures.value in
    let there : b < length xs = omega (arith, c.spot_behind-b.ensures.leaf, ap length is, length-keys ls.items) in
    let within = subst (λ (l : List Leaf). j ≤ length (get_or (keys_of l) b [])) is c.spot_behind-b.ensures.within in
    let below = subst (λ (l : List Leaf). (i : ℕ) (d : Key) → i < place_in (keys_of l) b j → rank (get_or (all_keys l) i d).first ≤ rank id) is c.spot_behind-b.ensures.below in
    let above = subst (λ (l : List Leaf). (i : ℕ) (d : Key) → place_in (keys_of l) b j ≤ i → i < length (all_keys l) → rank id < rank (get_or (all_keys l) i d).first) is c.spot_behind-b.ensures.above in
    let n = place_in xs b j in
    let some : 0 < n = found_some all id n c.requires.there.0 above c.requires.there.1 in
    let behind : 0 < j = behind_one xs b j some c.spot_behind-b.ensures.front in
    let inside : j - 1 < length (get_or xs b []) = omega (arith, within, behind) in
    let key = c.of.result in
    let long : n ≤ length all = at_within xs b j there within in
    let last : at xs b (j - 1) ≡ n - 1 = omega (arith, behind) in
    let leaves = set ls.items b c.write.new.self in
    let keys_is : keys_of leaves ≡ set xs b (set (get_or xs b []) (j - 1) key) =
    keys-set ls.items b c.index_mut.result.now c.write.new.self (λ l. set l (j - 1) key) (omega (arith, c.spot_behind-b.ensures.leaf, ap length is)) c.index_mut.ensures.value c.write.ensures in
    let row_is : all_keys leaves ≡ set all (n - 1) key = ap row keys_is ∙ set_row xs b (j - 1) key there inside ∙ ap (λ m. set all m key) last in
    let same = λ (d : Key) (less : n - 1 < length all). ap rank c.of.ensures.first ∙ sym (ap rank (found_first all id n c.requires.there.0 d some long below above c.requires.there.1)) in
    record {
      rising = subst (IsNonDecreasingBy (λ (z : Key). rank z.first)) (sym row_is) (rising_set all (n - 1) key same k.rising);
      halves = subst AreHalfFull (sym keys_is) (AreHalfFull-set xs b (set (get_or xs b []) (j - 1) key) k.halves (omega (arith, length-set (get_or xs b []) (j - 1) key)));
      memory = k.memory;
    }

pub returns-clause-looks : goal.returns-clause-looks
returns-clause-looks c = λ q fits.
    let k = c.args.keys.now in
    let ls = k.leaves in
    let xs = keys_of ls.items in
    let all = all_keys ls.items in
    let id = c.args.id in
    let b = c.spot_behind-b.result.0 in
    let j = c.spot_behind-b.result.1 in
    let is = c.deref.ensures.value in
    let there : b < length xs = omega (arith, c.spot_behind-b.ensures.leaf, ap length is, length-keys ls.items) in
    let within = subst (λ (l : List Leaf). j ≤ length (get_or (keys_of l) b [])) is c.spot_behind-b.ensures.within in
    let below = subst (λ (l : List Leaf). (i : ℕ) (d : Key) → i < place_in (keys_of l) b j → rank (get_or (all_keys l) i d).first ≤ rank id) is c.spot_behind-b.ensures.below in
    let above = subst (λ (l : List Leaf). (i : ℕ) (d : Key) → place_in (keys_of l) b j ≤ i → i < length (all_keys l) → rank id < rank (get_or (all_keys l) i d).first) is c.spot_behind-b.ensures.above in
    let n = place_in xs b j in
    let some : 0 < n = found_some all id n c.requires.there.0 above c.requires.there.1 in
    let behind : 0 < j = behind_one xs b j some c.spot_behind-b.ensures.front in
    let inside : j - 1 < length (get_or xs b []) = omega (arith, within, behind) in
    let key = c.of.result in
    let long : n ≤ length all = at_within xs b j there within in
    let last : at xs b (j - 1) ≡ n - 1 = omega (arith, behind) in
    let leaves = set ls.items b c.write.new.self in
    let keys_is : keys_of leaves ≡ set xs b (set (get_or xs b []) (j - 1) key) =
    keys-set ls.items b c.index_mut.result.now c.write.new.self (λ l. set l (j - 1) key) (omega (arith, c.spot_behind-b.ensures.leaf, ap length is)) c.index_mut.ensures.value c.write.ensures in
    let row_is : all_keys leaves ≡ set all (n - 1) key = ap row keys_is ∙ set_row xs b (j - 1) key there inside ∙ ap (λ m. set all m key) last in
    ap (λ l. look_in l q) row_is ∙ renew_keys all n key id c.args.number c.requires.there.0 c.of.ensures.first c.of.ensures.number some long below above c.requires.there.1 q fits

pub returns-clause-len : goal.returns-clause-len
returns-clause-len c =
    let k = c.args.keys.now in
    let ls = k.leaves in
    let xs = keys_of ls.items in
    let all = all_keys ls.items in
    let id = c.args.id in
    let b = c.spot_behind-b.result.0 in
    let j = c.spot_behind-b.result.1 in
    let is = c.deref.ensures.value in
    let there : b < length xs = omega (arith, c.spot_behind-b.ensures.leaf, ap length is, length-keys ls.items) in
    let within = subst (λ (l : List Leaf). j ≤ length (get_or (keys_of l) b [])) is c.spot_behind-b.ensures.within in
    let below = subst (λ (l : List Leaf). (i : ℕ) (d : Key) → i < place_in (keys_of l) b j → rank (get_or (all_keys l) i d).first ≤ rank id) is c.spot_behind-b.ensures.below in
    let above = subst (λ (l : List Leaf). (i : ℕ) (d : Key) → place_in (keys_of l) b j ≤ i → i < length (all_keys l) → rank id < rank (get_or (all_keys l) i d).first) is c.spot_behind-b.ensures.above in
    let n = place_in xs b j in
    let some : 0 < n = found_some all id n c.requires.there.0 above c.requires.there.1 in
    let behind : 0 < j = behind_one xs b j some c.spot_behind-b.ensures.front in
    let inside : j - 1 < length (get_or xs b []) = omega (arith, within, behind) in
    let key = c.of.result in
    let long : n ≤ length all = at_within xs b j there within in
    let last : at xs b (j - 1) ≡ n - 1 = omega (arith, behind) in
    let leaves = set ls.items b c.write.new.self in
    let keys_is : keys_of leaves ≡ set xs b (set (get_or xs b []) (j - 1) key) =
    keys-set ls.items b c.index_mut.result.now c.write.new.self (λ l. set l (j - 1) key) (omega (arith, c.spot_behind-b.ensures.leaf, ap length is)) c.index_mut.ensures.value c.write.ensures in
    let row_is : all_keys leaves ≡ set all (n - 1) key = ap row keys_is ∙ set_row xs b (j - 1) key there inside ∙ ap (λ m. set all m key) last in
    ap length row_is ∙ length-set all (n - 1) key
