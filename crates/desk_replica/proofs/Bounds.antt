-- How many elements and characters there are at most, and that nothing is listed where nothing is held.
use Rattle.std.proofs.Common.{◌≡◌, ◌≤◌, ◌+◌, ℕ, zero, suc, Bool, true, false, not, List, [], ◌∷◌, length, take, None, Some, sym, ap, subst, ◌∙◌, refl, true≢false, is_some, arith}
use Rattle.std.proofs.lemmas.List.{length-map}
use Rattle.std.specs.Prelude.{◌||◌, ◌&&◌, slice_get, map as each}
use Rattle.std.proofs.lemmas.Bool.{or_parts}
use Rattle.std.proofs.lemmas.List.Sums.{length-filter, count_by-le-length}
use Rattle.std.specs.FinMap as map
use Rattle.std.specs.FinSet as set
use Rattle.bg_types.specs.Identifier.{Identifier, id_cmp, same_id}
use Rattle.bg_types.specs.OperationSet.{Node, OperationSet, AllWellFormed, Holds, size}
use Rattle.bg_types.specs.declared.op.Place.TheVariants.{Root}
use Rattle.bg_types.specs.declared.op.OpView.{OpView}
use Rattle.bg_types.specs.declared.op.OpView.TheVariants.{Insert, Erase}
use Rattle.bg_types.proofs.Interface.{same_id-is, same_id-itself}
use Rattle.rga_tree.specs.Walk.{walk, walked_ids}
use Rattle.rga_tree.specs.TextOf.{is_erased, text, visible}
use Rattle.rga_tree.proofs.Interface.{Entry, is_listed, all_listed, all_held, all_weaker_by, IsDistinct-walked}
use Rattle.pending_ops.specs.Waiting.{ListsOnce}
use Rattle.pending_ops.specs.Chains.{AreApart, is_in}
use Rattle.pending_ops.proofs.Interface.{IsDistinct-apart, contains-from_list, len-from_list}
use Rattle.desk_replica.proofs.Whole.{some_not}
use Rattle.desk_replica.proofs.Sizes.{len_set-map, of_map}

listed_in : (q : Identifier) (es : List Entry) → is_in (each (λ e. e.0) es) q ≡ is_listed q es
listed_in q [] = refl
listed_in q (e ∷ es) = ap (λ b. same_id q e.0 || b) (listed_in q es)

-- what the walk lists is inserted
pub walked_inserted : (s : OperationSet) (q : Identifier) → is_in (walked_ids s) q ≡ true → map.contains_key s.ins q ≡ true
walked_inserted s q h =
    all_listed (λ a. map.contains_key s.ins a ≡ true) (walk s Root) q
    (all_weaker_by (λ e. map.get s.ins e.0 ≡ Some e.1) (λ e. map.contains_key s.ins e.0 ≡ true) (walk s Root) (λ e k. ap is_some k) (all_held s (map.len s.ins) Root))
    (sym (listed_in q (walk s Root)) ∙ h)

-- the walk lists no more than there are insertions
pub walk_within : (s : OperationSet) → AllWellFormed s → length (walk s Root) ≤ map.len s.ins
walk_within s well =
    let ids = walked_ids s in
    let apart = IsDistinct-apart ids (IsDistinct-walked s well) in
    let le = len_set-map (set.from_list ids) s.ins (λ q h. walked_inserted s q (sym (contains-from_list ids q) ∙ h)) in
    let l0 = len-from_list ids apart in
    let l1 = length-map (walk s Root) (λ (e : Entry). e.0) in
    omega arith

-- keys of a map, and others that are listed
pub set_beside : (xs : List Identifier) (m : map.FinMap id_cmp Node) → AreApart xs → ((q : Identifier) → is_in xs q ≡ true → map.contains_key m q ≡ true)
    → (below : set.FinSet id_cmp) → ((q : Identifier) → set.contains below q ≡ true → (map.contains_key m q ≡ true) × (is_in xs q ≡ false)) → set.len below + length xs ≤ map.len m
set_beside [] m apart listed below beside = let le = len_set-map below m (λ q h. (beside q h).0) in omega (arith, le)
set_beside (x ∷ xs) m apart listed below beside =
    let own : map.contains_key m x ≡ true = listed x (ap (λ b. b || is_in xs x) (same_id-itself x)) in
    let cut = of_map.size_cut m x own in
    let rest = set_beside xs (map.remove m x) apart.1 (λ q h. kept q h (same_id q x) refl) below (λ q h. (gone q (beside q h) (same_id q x) refl, (or_parts (same_id q x) (is_in xs q) (beside q h).1).1)) in
    omega (arith, cut, rest)
  where
    kept : (q : Identifier) → is_in xs q ≡ true → (b : Bool) → same_id q x ≡ b → map.contains_key (map.remove m x) q ≡ true
    kept q h true same = absurd (true≢false (sym h ∙ ap (is_in xs) (same_id-is q x same) ∙ apart.0))
    kept q h false same = of_map.has_cut m x q ∙ ap (λ b. not b && map.contains_key m q) same ∙ listed q (ap (λ b. b || is_in xs q) same ∙ h)

    gone : (q : Identifier) → (map.contains_key m q ≡ true) × ((same_id q x || is_in xs q) ≡ false) → (b : Bool) → same_id q x ≡ b → map.contains_key (map.remove m x) q ≡ true
    gone q h true same = absurd (true≢false (sym (ap (λ b. b || is_in xs q) same) ∙ h.1))
    gone q h false same = of_map.has_cut m x q ∙ ap (λ b. not b && map.contains_key m q) same ∙ h.0

-- a text has no more characters than there are operations
pub text_within : (s : OperationSet) → AllWellFormed s → length (text s) ≤ size s
text_within s well =
    let characters = length-map (visible s) (λ (e : Entry). e.1.ch) in
    let kept = length-filter (λ (e : Entry). not (is_erased s e.0)) (walk s Root) in
    let some = count_by-le-length (λ (e : Entry). not (is_erased s e.0)) (walk s Root) in
    let all = walk_within s well in
    omega (arith, characters, kept, some, all)

-- a set without operations is listed by the empty list
pub lists_none : (s : OperationSet) (xs : List OpView) (n : ℕ) → n ≡ size s → n ≤ 0 → ListsOnce s (take n xs)
lists_none s xs n e z =
    let ins : s.ins ≡ map.empty = map.empty_of_len s.ins (omega arith) in
    let del : s.del ≡ set.empty = set.empty_of_len s.del (omega arith) in
    let none : n ≡ 0 = omega arith in
    subst (λ k. ListsOnce s (take k xs)) (sym none) (record {
      each = λ op. ((λ h. absurd (nothing op ins del h)), (λ f. absurd (no_place f.0 op f.1)));
      once = λ i j op h k. absurd (no_place i op h);
      all = omega arith;
    })
  where
    nothing : (op : OpView) → s.ins ≡ map.empty → s.del ≡ set.empty → Holds s op → ⊥
    nothing (Insert q p ch) ins del h = some_not (record { parent = p; ch = ch }) ⊥ (sym (map.get-empty {X = Node} id_cmp q) ∙ sym (ap (λ m. map.get m q) ins) ∙ h)
    nothing (Erase q) ins del h = true≢false (sym h ∙ ap (λ m. set.contains m q) del ∙ set.contains-empty id_cmp q)

    no_place : (j : ℕ) (op : OpView) → slice_get [] j ≡ Some op → ⊥
    no_place zero op h = let f : None ≡ Some op = h in absurd cc
    no_place (suc j) op h = let f : None ≡ Some op = h in absurd cc
