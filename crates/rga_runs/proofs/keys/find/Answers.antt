-- The goals of `find` that are answered by hand.
use Rattle.std.proofs.Common.{◌≡◌, ◌<◌, ◌≤◌, ◌+◌, ◌-◌, ◌∙◌, ℕ, List, [], cond, Some, None, length, take, get_or, sym, ap, subst, arith, rules}
use Rattle.std.specs.Prelude.{vec_len}
use Rattle.std.proofs.lemmas.List.{nil_from_length}
use Rattle.rga_runs.specs.declared.key.Key.{Key}
use Rattle.rga_runs.specs.declared.leaf.Leaf.{Leaf}
use Rattle.rga_runs.specs.Keyed.{rank, look_in, of_site}
use Rattle.rga_runs.specs.Leaves.{keys_of, all_keys, place_in}
use Rattle.rga_runs.proofs.Chunks.{row, at, at_within, get_or_row}
use Rattle.rga_runs.proofs.Keyed.{found_none, found_last, eq_true, eq_false}
use Rattle.rga_runs.proofs.LeafRows.{length-keys, keys_at}
use Rattle.rga_runs.proofs.keys.find.Goals as goal

pub returns-then-is_empty-clause-none : goal.returns-then-is_empty-clause-none
returns-then-is_empty-clause-none c =
    let ls = c.args.keys.now.leaves in
    let zero : vec_len ls ≡ 0 = search rules in
    let none : ls.items ≡ [] = nil_from_length ls.items (omega (arith, ls.ok, zero)) in
    ap (λ l. look_in (all_keys l) c.args.id) none

pub returns-then-at-eq0-clause-none : goal.returns-then-at-eq0-clause-none
returns-then-at-eq0-clause-none c =
    let ls = c.args.keys.now.leaves.items in
    let is = c.deref.ensures.value in
    let none = c.if-at-eq0.true in
    let front = c.spot-b.ensures.front none in
    let n = place_in (keys_of ls) c.spot-b.result.0 c.spot-b.result.1 in
    let zero : n ≡ 0 = ap (λ b. length (row (take b (keys_of ls))) + c.spot-b.result.1) front ∙ omega (arith, none) in
    let above = subst (λ (l : List Leaf). (i : ℕ) (d : Key) → place_in (keys_of l) c.spot-b.result.0 c.spot-b.result.1 ≤ i → i < length (all_keys l) → rank c.args.id < rank (get_or (all_keys l) i d).first) is c.spot-b.ensures.above in
    found_none (all_keys ls) c.args.id (λ i d low less. above i d (omega (arith, zero)) less)

pub returns-then-site-clause-found : goal.returns-then-site-clause-found
returns-then-site-clause-found c =
    let ls = c.args.keys.now.leaves in
    let xs = keys_of ls.items in
    let all = all_keys ls.items in
    let id = c.args.id in
    let b = c.spot-b.result.0 in
    let j = c.spot-b.result.1 in
    let k = c.index-key.result.now in
    let is = c.deref.ensures.value in
    let there : b < length ls.items = omega (arith, c.spot-b.ensures.leaf, ap length is) in
    let here = keys_at ls.items b c.index.result.now there c.index.ensures in
    let some : 0 < j = omega (arith, c.if-at-eq0.false) in
    let within = subst (λ (l : List Leaf). j ≤ length (get_or (keys_of l) b [])) is c.spot-b.ensures.within in
    let below = subst (λ (l : List Leaf). (i : ℕ) (d : Key) → i < place_in (keys_of l) b j → rank (get_or (all_keys l) i d).first ≤ rank id) is c.spot-b.ensures.below in
    let above = subst (λ (l : List Leaf). (i : ℕ) (d : Key) → place_in (keys_of l) b j ≤ i → i < length (all_keys l) → rank id < rank (get_or (all_keys l) i d).first) is c.spot-b.ensures.above in
    let n = place_in xs b j in
    let inside : b < length xs = omega (arith, there, length-keys ls.items) in
    let at_last : n - 1 ≡ at xs b (j - 1) = omega (arith, some) in
    let item : get_or all (n - 1) k ≡ k =
    ap (λ m. get_or all m k) at_last ∙ get_or_row xs b (j - 1) k inside (omega (arith, some, within)) ∙ ap (λ (l : List Key). get_or l (j - 1) k) here ∙ sym c.index-key.ensures in
    let found = found_last all id n k (omega (arith, some)) (at_within xs b j inside within) below above in
    let it : look_in all id ≡ of_site id.site (Some k) = found ∙ ap (λ (z : Key). of_site id.site (Some z)) item in
    it ∙ ap (λ t. cond t (Some (k.first, k.number)) None) (eq_true k.first.site id.site (sym c.site.ensures.value ∙ c.if-site.true ∙ c.site-2.ensures.value))

pub returns-else-site-clause-none : goal.returns-else-site-clause-none
returns-else-site-clause-none c =
    let ls = c.args.keys.now.leaves in
    let xs = keys_of ls.items in
    let all = all_keys ls.items in
    let id = c.args.id in
    let b = c.spot-b.result.0 in
    let j = c.spot-b.result.1 in
    let k = c.index-key.result.now in
    let is = c.deref.ensures.value in
    let there : b < length ls.items = omega (arith, c.spot-b.ensures.leaf, ap length is) in
    let here = keys_at ls.items b c.index.result.now there c.index.ensures in
    let some : 0 < j = omega (arith, c.if-at-eq0.false) in
    let within = subst (λ (l : List Leaf). j ≤ length (get_or (keys_of l) b [])) is c.spot-b.ensures.within in
    let below = subst (λ (l : List Leaf). (i : ℕ) (d : Key) → i < place_in (keys_of l) b j → rank (get_or (all_keys l) i d).first ≤ rank id) is c.spot-b.ensures.below in
    let above = subst (λ (l : List Leaf). (i : ℕ) (d : Key) → place_in (keys_of l) b j ≤ i → i < length (all_keys l) → rank id < rank (get_or (all_keys l) i d).first) is c.spot-b.ensures.above in
    let n = place_in xs b j in
    let inside : b < length xs = omega (arith, there, length-keys ls.items) in
    let at_last : n - 1 ≡ at xs b (j - 1) = omega (arith, some) in
    let item : get_or all (n - 1) k ≡ k =
    ap (λ m. get_or all m k) at_last ∙ get_or_row xs b (j - 1) k inside (omega (arith, some, within)) ∙ ap (λ (l : List Key). get_or l (j - 1) k) here ∙ sym c.index-key.ensures in
    let found = found_last all id n k (omega (arith, some)) (at_within xs b j inside within) below above in
    let it : look_in all id ≡ of_site id.site (Some k) = found ∙ ap (λ (z : Key). of_site id.site (Some z)) item in
    it ∙ ap (λ t. cond t (Some (k.first, k.number)) None) (eq_false k.first.site id.site (λ same. c.if-site.false (c.site.ensures.value ∙ same ∙ sym c.site-2.ensures.value)))
