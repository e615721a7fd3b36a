-- The list of what is held: each operation once.
use Rattle.std.proofs.Common.{◌≡◌, ◌≤◌, ◌+◌, ◌++◌, ◌⊎◌, ℕ, true, false, cond, List, [], ◌∷◌, length, Option, None, Some, sym, ap, ◌∙◌, refl, zero, suc, inl, inr, true≢false, is_some, arith, length-append}
use Rattle.std.specs.Prelude.{◌||◌, map as each, slice_get}
use Rattle.std.specs.Option.{option_map}
use Rattle.std.specs.FinMap as map
use Rattle.std.specs.FinSet as set
use Rattle.std.proofs.lemmas.List.{length-map}
use Rattle.std.proofs.lemmas.Option.{slice_get-map}
use Rattle.std.proofs.lemmas.Map.Entries.{place_from_lookup, lookup_from_place}
use Rattle.bg_types.specs.Identifier.{Identifier, id_cmp, same_id}
use Rattle.bg_types.specs.OperationSet.{Holds, Node}
use Rattle.bg_types.specs.declared.op.Place.{Place}
use Rattle.bg_types.specs.declared.op.OpView.{OpView}
use Rattle.bg_types.specs.declared.op.OpView.TheVariants.{Insert, Erase}
use Rattle.bg_types.proofs.Interface.{id_cmp-total, same_id-is}
use Rattle.pending_ops.specs.declared.chains.Slot.{Slot}
use Rattle.pending_ops.specs.Waiting.{ListsOnce}
use Rattle.pending_ops.specs.Chains.{AreApart, insertion_of, insertions_of, is_in, node_in, slot_in, waiting_of}
use Rattle.pending_ops.proofs.Tables.{AreApart-distinct, is_in-keys_of, is_in-slice_get, keys_of, same_id-equivalence}
use Rattle.pending_ops.proofs.Views.{contains-from_list, get-insertions_of}

pub len-from_list : (xs : List Identifier) → AreApart xs → set.len (set.from_list {R = id_cmp} xs) ≡ length xs
len-from_list [] h = set.len-empty id_cmp
len-from_list (x ∷ xs) h =
    let all = set.from_list {R = id_cmp} xs in
    let rest = len-from_list xs h.1 in
    let more : set.len (set.insert all x) ≡ set.len all + 1 = set.len-insert id_cmp-total all x ∙ ap (λ b. cond b (set.len all) (set.len all + 1)) (contains-from_list xs x ∙ h.0) in
    omega arith

not_in : (slots : List (Identifier × Slot)) (id : Identifier) (o : Option Slot) → slot_in slots id ≡ o → is_in (keys_of slots) id ≡ false → is_some (option_map node_in o) ≡ false
not_in slots id None e h = refl
not_in slots id (Some s) e h = absurd (true≢false (sym (is_in-keys_of slots id s e) ∙ h))

pub len-insertions_of : (slots : List (Identifier × Slot)) → AreApart (keys_of slots) → map.len (insertions_of slots) ≡ length slots
len-insertions_of [] h = map.len-empty id_cmp Node
len-insertions_of (x ∷ xs) h =
    let all = insertions_of xs in
    let rest = len-insertions_of xs h.1 in
    let new : map.contains_key all x.0 ≡ false = ap is_some (get-insertions_of xs x.0) ∙ not_in xs x.0 (slot_in xs x.0) refl h.0 in
    let more : map.len (map.insert all x.0 (node_in x.1)) ≡ map.len all + 1 =
    map.len-insert id_cmp-total all x.0 (node_in x.1) ∙ ap (λ b. cond b (map.len all) (map.len all + 1)) new in
    omega arith

module _ {X : Type 0} where
  pub slice_get-left : (xs ys : List X) (j : ℕ) (x : X) → slice_get xs j ≡ Some x → slice_get (xs ++ ys) j ≡ Some x
  slice_get-left [] ys j x h = let e : None ≡ Some x = h in absurd cc
  slice_get-left (z ∷ zs) ys zero x h = h
  slice_get-left (z ∷ zs) ys (suc j) x h = slice_get-left zs ys j x h

  pub slice_get-right : (xs ys : List X) (j k : ℕ) (x : X) → j ≡ length xs + k → slice_get ys k ≡ Some x → slice_get (xs ++ ys) j ≡ Some x
  slice_get-right [] ys j k x e h = let same : j ≡ k = omega arith in ap (slice_get ys) same ∙ h
  slice_get-right (z ∷ zs) ys zero k x e h = absurd (omega arith)
  slice_get-right (z ∷ zs) ys (suc j) k x e h = let less : j ≡ length zs + k = omega arith in slice_get-right zs ys j k x less h

  -- a place of two lists in a row is a place of one of them
  pub slice_get_either : (xs ys : List X) (j : ℕ) (x : X) → slice_get (xs ++ ys) j ≡ Some x
      → (slice_get xs j ≡ Some x) ⊎ ((k : ℕ) × ((j ≡ length xs + k) × (slice_get ys k ≡ Some x)))
  slice_get_either [] ys j x h = inr (j, (omega arith, h))
  slice_get_either (z ∷ zs) ys zero x h = inl h
  slice_get_either (z ∷ zs) ys (suc j) x h =
      elim (slice_get_either zs ys j x h) [ inl here ↦ inl here | inr there ↦ inr (there.0, (let e = there.1.0 in omega arith, there.1.1)) ]

  pub slice_get_none : (xs : List X) (j : ℕ) → slice_get xs j ≡ None → length xs ≤ j
  slice_get_none [] j h = omega arith
  slice_get_none (x ∷ xs) zero h = let e : Some x ≡ None = h in absurd cc
  slice_get_none (x ∷ xs) (suc j) h = let rest = slice_get_none xs j h in omega arith

-- those that occur once stand in one place
pub one_place : (xs : List Identifier) (i j : ℕ) (x : Identifier) → AreApart xs → slice_get xs i ≡ Some x → slice_get xs j ≡ Some x → i ≡ j
one_place [] i j x h f g = let e : None ≡ Some x = f in absurd cc
one_place (y ∷ ys) zero zero x h f g = refl
one_place (y ∷ ys) zero (suc j) x h f g =
    let same : y ≡ x = let e : Some y ≡ Some x = f in cc in
    absurd (true≢false (sym (is_in-slice_get ys j x g) ∙ ap (is_in ys) (sym same) ∙ h.0))
one_place (y ∷ ys) (suc i) zero x h f g =
    let same : y ≡ x = let e : Some y ≡ Some x = g in cc in
    absurd (true≢false (sym (is_in-slice_get ys i x f) ∙ ap (is_in ys) (sym same) ∙ h.0))
one_place (y ∷ ys) (suc i) (suc j) x h f g = ap (λ n. suc n) (one_place ys i j x h.1 f g)

is_place : (xs : List Identifier) (x : Identifier) → is_in xs x ≡ true → (j : ℕ) × (slice_get xs j ≡ Some x)
is_place [] x h = absurd (true≢false (sym h))
is_place (y ∷ ys) x h =
    elim (same_id x y) as (λ b. same_id x y ≡ b → (b || is_in ys x) ≡ true → (j : ℕ) × (slice_get (y ∷ ys) j ≡ Some x)) [
      | true ↦ λ own _. (0, ap Some (sym (same_id-is x y own)))
      | false ↦ λ _ k. let rest = is_place ys x k in (suc rest.0, rest.1)
    ] refl h

-- what stands at a place of the insertions
at_insertion : (o : Option (Identifier × Slot)) (id : Identifier) (parent : Place) (ch : ℕ) → option_map insertion_of o ≡ Some (Insert id parent ch)
    → (s : Slot) × ((o ≡ Some (id, s)) × ((s.parent ≡ parent) × (s.ch ≡ ch)))
at_insertion None id parent ch h = let e : None ≡ Some (Insert id parent ch) = h in absurd cc
at_insertion (Some e) id parent ch h =
    let f : Some (Insert e.0 e.1.parent e.1.ch) ≡ Some (Insert id parent ch) = h in
    let same : e.0 ≡ id = cc in
    (e.1, (ap (λ x. Some (x, e.1)) same, (cc, cc)))

not_insertion : (o : Option (Identifier × Slot)) (target : Identifier) → option_map insertion_of o ≡ Some (Erase target) → ⊥
not_insertion None target h = let e : None ≡ Some (Erase target) = h in cc
not_insertion (Some e) target h = let f : Some (Insert e.0 e.1.parent e.1.ch) ≡ Some (Erase target) = h in cc

at_erasure : (o : Option Identifier) (target : Identifier) → option_map Erase o ≡ Some (Erase target) → o ≡ Some target
at_erasure None target h = let e : None ≡ Some (Erase target) = h in absurd cc
at_erasure (Some t) target h = let e : Some (Erase t) ≡ Some (Erase target) = h in cc

not_erasure : (o : Option Identifier) (id : Identifier) (parent : Place) (ch : ℕ) → option_map Erase o ≡ Some (Insert id parent ch) → ⊥
not_erasure None id parent ch h = let e : None ≡ Some (Insert id parent ch) = h in cc
not_erasure (Some t) id parent ch h = let e : Some (Erase t) ≡ Some (Insert id parent ch) = h in cc

has_slot : (o : Option Slot) (n : Node) → option_map node_in o ≡ Some n → (s : Slot) × ((o ≡ Some s) × (node_in s ≡ n))
has_slot None n h = let e : None ≡ Some n = h in absurd cc
has_slot (Some s) n h = let e : Some (node_in s) ≡ Some n = h in (s, (refl, cc))

module _ (slots : List (Identifier × Slot)) (released erased : List Identifier) (room : ℕ) (apart : AreApart (keys_of slots)) (erased_apart : AreApart erased) where
  abbrev ins : List OpView
  ins = each insertion_of slots

  abbrev del : List OpView
  del = each Erase erased

  keys_at : (j : ℕ) (e : Identifier × Slot) → slice_get slots j ≡ Some e → slice_get (keys_of slots) j ≡ Some e.0
  keys_at j e h = slice_get-map (λ (x : Identifier × Slot). x.0) slots j ∙ ap (option_map (λ (x : Identifier × Slot). x.0)) h

  ins_at : (j : ℕ) (id : Identifier) (parent : Place) (ch : ℕ) → slice_get (ins ++ del) j ≡ Some (Insert id parent ch)
      → (s : Slot) × ((slice_get slots j ≡ Some (id, s)) × ((s.parent ≡ parent) × (s.ch ≡ ch)))
  ins_at j id parent ch h = elim (slice_get_either ins del j (Insert id parent ch) h) [
    | inl here ↦ at_insertion (slice_get slots j) id parent ch (sym (slice_get-map insertion_of slots j) ∙ here)
    | inr there ↦ absurd (not_erasure (slice_get erased there.0) id parent ch (sym (slice_get-map Erase erased there.0) ∙ there.1.1))
  ]

  del_at : (j : ℕ) (target : Identifier) → slice_get (ins ++ del) j ≡ Some (Erase target) → (k : ℕ) × ((j ≡ length ins + k) × (slice_get erased k ≡ Some target))
  del_at j target h = elim (slice_get_either ins del j (Erase target) h) [
    | inl here ↦ absurd (not_insertion (slice_get slots j) target (sym (slice_get-map insertion_of slots j) ∙ here))
    | inr there ↦ (there.0, (there.1.0, at_erasure (slice_get erased there.0) target (sym (slice_get-map Erase erased there.0) ∙ there.1.1)))
  ]

  slot_at : (j : ℕ) (id : Identifier) (s : Slot) → slice_get slots j ≡ Some (id, s) → slot_in slots id ≡ Some s
  slot_at j id s h = lookup_from_place same_id-equivalence slots j id s (AreApart-distinct (keys_of slots) apart) h

  has : (op : OpView) → Holds (waiting_of slots released erased room).held op → (j : ℕ) × (slice_get (ins ++ del) j ≡ Some op)
  has (Insert id parent ch) h =
      let s = has_slot (slot_in slots id) (record { parent = parent; ch = ch }) (sym (get-insertions_of slots id) ∙ h) in
      let p = place_from_lookup (same_id id) slots s.0 s.1.0 in
      let same : p.1 ≡ id = sym (same_id-is id p.1 p.3) in (
        p.0,
        slice_get-left ins del p.0 (Insert id parent ch) (slice_get-map insertion_of slots p.0 ∙ ap (option_map insertion_of) p.2
            ∙ (λ i. Some (Insert (same i) (s.1.1 i).parent (s.1.1 i).ch))),
      )
  has (Erase target) h =
      let p = is_place erased target (sym (contains-from_list erased target) ∙ h) in
      (length ins + p.0, slice_get-right ins del (length ins + p.0) p.0 (Erase target) refl (slice_get-map Erase erased p.0 ∙ ap (option_map Erase) p.1))

  had : (op : OpView) → (j : ℕ) × (slice_get (ins ++ del) j ≡ Some op) → Holds (waiting_of slots released erased room).held op
  had (Insert id parent ch) h =
      let at = ins_at h.0 id parent ch h.1 in
      get-insertions_of slots id ∙ ap (option_map node_in) (slot_at h.0 id at.0 at.1.0) ∙ (λ i. Some (record { parent = at.1.1.0 i; ch = at.1.1.1 i }))
  had (Erase target) h =
      let at = del_at h.0 target h.1 in
      contains-from_list erased target ∙ is_in-slice_get erased at.0 target at.1.1

  once : (i j : ℕ) (op : OpView) → slice_get (ins ++ del) i ≡ Some op → slice_get (ins ++ del) j ≡ Some op → i ≡ j
  once i j (Insert id parent ch) f g =
      let a = ins_at i id parent ch f in
      let b = ins_at j id parent ch g in
      one_place (keys_of slots) i j id apart (keys_at i (id, a.0) a.1.0) (keys_at j (id, b.0) b.1.0)
  once i j (Erase target) f g =
      let a = del_at i target f in
      let b = del_at j target g in
      let same = one_place erased a.0 b.0 target erased_apart a.1.1 b.1.1 in
      a.1.0 ∙ ap (λ k. length ins + k) same ∙ sym b.1.0

  pub lists_once : ListsOnce (waiting_of slots released erased room).held (waiting_of slots released erased room).listed
  lists_once = record {
    each = λ op. (has op, had op);
    once = once;
    all = length-append ins del ∙ (λ i. (length-map slots insertion_of ∙ sym (len-insertions_of slots apart)) i + (length-map erased Erase ∙ sym (len-from_list erased erased_apart)) i);
  }
