-- The list of a desk has each of its operations once.
use Rattle.std.proofs.Common.{◌≡◌, ◌<◌, ◌+◌, ◌++◌, ℕ, zero, suc, Bool, true, false, cond, List, [], ◌∷◌, length, Option, None, Some, sym, ap, subst, ◌∙◌, refl, true≢false, is_some, arith, length-append, inl, inr}
use Rattle.std.proofs.lemmas.List.{length-map}
use Rattle.std.specs.Prelude.{◌⊎◌, ◌||◌, slice_get, filter, map as each}
use Rattle.std.specs.FinMap as map
use Rattle.std.specs.FinSet as set
use Rattle.bg_types.specs.Identifier.{Identifier, same_id}
use Rattle.bg_types.specs.OperationSet.{Node, OperationSet, Holds, size}
use Rattle.bg_types.specs.declared.op.Place.{Place}
use Rattle.bg_types.specs.declared.op.Place.TheVariants.{Root}
use Rattle.bg_types.specs.declared.op.OpView.{OpView}
use Rattle.bg_types.specs.declared.op.OpView.TheVariants.{Insert, Erase}
use Rattle.bg_types.proofs.Interface.{one_of, get-union}
use Rattle.rga_tree.specs.declared.element.Element.{Element}
use Rattle.rga_tree.specs.Walk.{walk, walked_ids}
use Rattle.rga_tree.specs.Elements.{elements, element_of}
use Rattle.rga_tree.specs.Row.{hidden_ids, ids_of}
use Rattle.rga_tree.proofs.Interface.{Entry, IsDistinct-walked, IsAttached-tree, listed-attached}
use Rattle.pending_ops.specs.Chains.{AreApart, is_in}
use Rattle.pending_ops.specs.Waiting.{Waiting, ListsOnce}
use Rattle.pending_ops.proofs.Interface.{IsDistinct-apart, one_place, slice_get-left, slice_get_either}
use Rattle.desk_replica.specs.Desk.{Desk, insertion_of}
use Rattle.desk_replica.specs.Listed.{listed}
use Rattle.desk_replica.specs.Placement.{IsSettled, waiting_in, whole}
use Rattle.desk_replica.proofs.Whole.{contains-union, first_none, some_not, which}
use Rattle.desk_replica.proofs.Settled.{elements-whole, in_whole, there}
use Rattle.desk_replica.proofs.Admitting.{IsContent}
use Rattle.desk_replica.proofs.Desks.{desk_of}
use Rattle.desk_replica.proofs.Lists.{slice_get-right, slice_get-from, slice_get-to, slice_get-take}
use Rattle.desk_replica.proofs.ElementPlaces.{element_at, element_for}
use Rattle.desk_replica.proofs.OnceEach.{Lists, Once, lists_size}
use Rattle.std.proofs.lemmas.Bool.{or_left, or_right}

-- ---- the hidden ones of a row

hidden_in : (row : List Element) (q : Identifier) → is_in (hidden_ids row) q ≡ true → is_in (ids_of row) q ≡ true
hidden_in [] q h = h
hidden_in (e ∷ row) q h = by e.hidden (hidden_in row q) h
  where
    by : (b : Bool) → (is_in (hidden_ids row) q ≡ true → is_in (ids_of row) q ≡ true)
        → is_in (each (λ (x : Element). x.id) (cond b (e ∷ filter (λ x. x.hidden) row) (filter (λ x. x.hidden) row))) q ≡ true → (same_id q e.id || is_in (ids_of row) q) ≡ true
    by true rest h = one_of (same_id q e.id) (is_in (hidden_ids row) q) _ h (λ a. or_left (same_id q e.id) (is_in (ids_of row) q) a) (λ a. or_right (same_id q e.id) (is_in (ids_of row) q) (rest a))
    by false rest h = or_right (same_id q e.id) (is_in (ids_of row) q) (rest h)

hidden_apart : (row : List Element) → AreApart (ids_of row) → AreApart (hidden_ids row)
hidden_apart [] h = tt
hidden_apart (e ∷ row) h = by e.hidden (hidden_apart row h.1)
  where
    not_in : (b : Bool) → is_in (hidden_ids row) e.id ≡ b → b ≡ false
    not_in true k = absurd (true≢false (sym (hidden_in row e.id k) ∙ h.0))
    not_in false k = refl

    by : (b : Bool) → AreApart (hidden_ids row) → AreApart (each (λ (x : Element). x.id) (cond b (e ∷ filter (λ x. x.hidden) row) (filter (λ x. x.hidden) row)))
    by true rest = (not_in (is_in (hidden_ids row) e.id) refl, rest)
    by false rest = rest

-- a hidden element has a place among them
hidden_place : (row : List Element) (j : ℕ) (e : Element) → slice_get row j ≡ Some e → e.hidden ≡ true → (k : ℕ) × (slice_get (hidden_ids row) k ≡ Some e.id)
hidden_place [] zero e is h = absurd (let f : None ≡ Some e = is in cc)
hidden_place [] (suc j) e is h = absurd (let f : None ≡ Some e = is in cc)
hidden_place (x ∷ row) zero e is h =
    let same : x ≡ e = let f : Some x ≡ Some e = is in cc in
    subst (λ b. (k : ℕ) × (slice_get (each (λ (y : Element). y.id) (cond b (x ∷ filter (λ y. y.hidden) row) (filter (λ y. y.hidden) row))) k ≡ Some e.id))
    (sym (ap (λ (y : Element). y.hidden) same ∙ h)) (zero, ap (λ (y : Element). Some y.id) same)
hidden_place (x ∷ row) (suc j) e is h = by x.hidden (hidden_place row j e is h)
  where
    by : (b : Bool) → (k : ℕ) × (slice_get (hidden_ids row) k ≡ Some e.id)
        → (k : ℕ) × (slice_get (each (λ (y : Element). y.id) (cond b (x ∷ filter (λ y. y.hidden) row) (filter (λ y. y.hidden) row))) k ≡ Some e.id)
    by true r = (suc r.0, r.1)
    by false r = r

-- the hidden element of this identifier
pub record IsHidden (row : List Element) (q : Identifier) : Type 0 where
  pub at : ℕ
  pub element : Element
  pub there : slice_get row at ≡ Some element
  pub hidden : element.hidden ≡ true
  pub names : element.id ≡ q

hidden_source : (row : List Element) (k : ℕ) (q : Identifier) → slice_get (hidden_ids row) k ≡ Some q → IsHidden row q
hidden_source [] zero q h = absurd (let f : None ≡ Some q = h in cc)
hidden_source [] (suc k) q h = absurd (let f : None ≡ Some q = h in cc)
hidden_source (x ∷ row) k q h = by x.hidden k refl (λ i f. hidden_source row i q f) h
  where
    one_more : IsHidden row q → IsHidden (x ∷ row) q
    one_more r = record { at = suc r.at; element = r.element; there = r.there; hidden = r.hidden; names = r.names }

    by : (b : Bool) (k : ℕ) → x.hidden ≡ b → ((i : ℕ) → slice_get (hidden_ids row) i ≡ Some q → IsHidden row q)
        → slice_get (each (λ (y : Element). y.id) (cond b (x ∷ filter (λ y. y.hidden) row) (filter (λ y. y.hidden) row))) k ≡ Some q → IsHidden (x ∷ row) q
    by true zero e rest h = record { at = zero; element = x; there = refl; hidden = e; names = (let f : Some x.id ≡ Some q = h in cc) }
    by true (suc k) e rest h = one_more (rest k h)
    by false k e rest h = one_more (rest k h)

ids_elements : (t : OperationSet) (es : List Entry) → ids_of (each (element_of t) es) ≡ each (λ e. e.0) es
ids_elements t [] = refl
ids_elements t (e ∷ es) = ap (λ xs. e.0 ∷ xs) (ids_elements t es)

-- ---- what each place of the list holds

abbrev pub listed_by : List Element → List OpView → List OpView
listed_by row waiting = each insertion_of row ++ each Erase (hidden_ids row) ++ waiting

-- an insertion stands among those of the elements, or among those that wait
insertion_place : (row : List Element) (waiting : List OpView) (j : ℕ) (q : Identifier) (p : Place) (ch : ℕ) → slice_get (listed_by row waiting) j ≡ Some (Insert q p ch)
    → ((e : Element) × ((slice_get row j ≡ Some e) × (insertion_of e ≡ Insert q p ch)))
    ⊎ ((k : ℕ) × ((j ≡ length (each insertion_of row ++ each Erase (hidden_ids row)) + k) × (slice_get waiting k ≡ Some (Insert q p ch))))
insertion_place row waiting j q p ch h = elim (slice_get_either (each insertion_of row ++ each Erase (hidden_ids row)) waiting j (Insert q p ch) h) [
  | inl a ↦ elim (slice_get_either (each insertion_of row) (each Erase (hidden_ids row)) j (Insert q p ch) a) [
    | inl b ↦ inl (slice_get-from insertion_of row j (Insert q p ch) b)
    | inr b ↦ let f = slice_get-from Erase (hidden_ids row) b.0 (Insert q p ch) b.1.1 in let g : Erase f.0 ≡ Insert q p ch = f.1.1 in absurd cc
  ]
  | inr a ↦ inr a
]

-- a deletion stands among those of the hidden elements, or among those that wait
deletion_place : (row : List Element) (waiting : List OpView) (j : ℕ) (q : Identifier) → slice_get (listed_by row waiting) j ≡ Some (Erase q)
    → ((k : ℕ) × ((j ≡ length (each insertion_of row) + k) × (slice_get (hidden_ids row) k ≡ Some q)))
    ⊎ ((k : ℕ) × ((j ≡ length (each insertion_of row ++ each Erase (hidden_ids row)) + k) × (slice_get waiting k ≡ Some (Erase q))))
deletion_place row waiting j q h = elim (slice_get_either (each insertion_of row ++ each Erase (hidden_ids row)) waiting j (Erase q) h) [
  | inl a ↦ elim (slice_get_either (each insertion_of row) (each Erase (hidden_ids row)) j (Erase q) a) [
    | inl b ↦ let f = slice_get-from insertion_of row j (Erase q) b in let g : Insert f.0.id f.0.parent f.0.ch ≡ Erase q = f.1.1 in absurd cc
    | inr b ↦
        let f = slice_get-from Erase (hidden_ids row) b.0 (Erase q) b.1.1 in
        let same : f.0 ≡ q = let g : Erase f.0 ≡ Erase q = f.1.1 in cc in
        inl (b.0, (b.1.0, f.1.0 ∙ ap (λ (x : Identifier). Some x) same))
  ]
  | inr a ↦ inr a
]

-- what waits is kept
pub late_kept : (t : OperationSet) (w : Waiting) → IsSettled t w → (op : OpView) → Holds w.held op → Holds (whole t w) op
late_kept t w d (Insert q p ch) h = get-union t w.held q ∙ first_none (map.get t.ins q) (map.get w.held.ins q) (by (map.get t.ins q) refl) ∙ h
  where
    by : (o : Option Node) → map.get t.ins q ≡ o → map.get t.ins q ≡ None
    by None e = e
    by (Some n) e = some_not (record { parent = p; ch = ch }) _ (sym (d.parted.apart q (ap is_some e)) ∙ h)
late_kept t w d (Erase q) h = contains-union t w.held q ∙ or_right (set.contains t.del q) (set.contains w.held.del q) h

module _ (t : OperationSet) (w : Waiting) (c : IsContent t) (d : IsSettled t w) (lists : ListsOnce w.held (waiting_in w)) where
  abbrev row : List Element
  row = elements t

  abbrev ops : List OpView
  ops = listed_by (elements t) (waiting_in w)

  apart : AreApart (ids_of row)
  apart = subst AreApart (sym (ids_elements t (walk t Root))) (IsDistinct-apart (walked_ids t) (IsDistinct-walked t c.well))

  -- an element tells an insertion of the tree, and a hidden one a deletion
  insertion_in : (j : ℕ) (e : Element) → slice_get row j ≡ Some e → map.get t.ins e.id ≡ Some (record { parent = e.parent; ch = e.ch })
  insertion_in j e h = let x = element_at t j e h in subst (λ (y : Element). map.get t.ins y.id ≡ Some (record { parent = y.parent; ch = y.ch })) x.1.1 x.1.0

  deletion_in : (k : ℕ) (q : Identifier) → slice_get (hidden_ids row) k ≡ Some q → set.contains t.del q ≡ true
  deletion_in k q h =
      let r = hidden_source row k q h in
      let x = element_at t r.at r.element r.there in
      let mark : set.contains t.del r.element.id ≡ r.element.hidden = subst (λ (y : Element). set.contains t.del y.id ≡ y.hidden) x.1.1 refl in
      ap (set.contains t.del) (sym r.names) ∙ mark ∙ r.hidden

  -- each place is of a kept operation
  sound : (op : OpView) (j : ℕ) → slice_get ops j ≡ Some op → Holds (whole t w) op
  sound (Insert q p ch) j h = elim (insertion_place row (waiting_in w) j q p ch h) [
    | inl a ↦ subst (Holds (whole t w)) a.1.1 (in_whole t w.held c.well d.well_formed c.tree c.only d.parted a.0.id (record { parent = a.0.parent; ch = a.0.ch }) (insertion_in j a.0 a.1.0))
    | inr a ↦ late_kept t w d (Insert q p ch) ((lists.each (Insert q p ch)).1 (a.0, a.1.1))
  ]
  sound (Erase q) j h = elim (deletion_place row (waiting_in w) j q h) [
    | inl a ↦ contains-union t w.held q ∙ or_left (set.contains t.del q) (set.contains w.held.del q) (deletion_in a.0 q a.1.1)
    | inr a ↦ late_kept t w d (Erase q) ((lists.each (Erase q)).1 (a.0, a.1.1))
  ]

  -- and each kept operation has a place
  late_place : (op : OpView) → Holds w.held op → (j : ℕ) × (slice_get ops j ≡ Some op)
  late_place op h =
      let f = (lists.each op).0 h in
      (length (each insertion_of row ++ each Erase (hidden_ids row)) + f.0, slice_get-right (each insertion_of row ++ each Erase (hidden_ids row)) (waiting_in w) f.0 _ refl ∙ f.1)

  element_there : (q : Identifier) (n : Node) → map.get t.ins q ≡ Some n → (j : ℕ) × (slice_get row j ≡ Some (element_of t (q, n)))
  element_there q n h = element_for t q n (listed-attached t q c.well (IsAttached-tree t q c.well c.tree (ap is_some h))) h

  insertion_told : (q : Identifier) (n : Node) → map.get t.ins q ≡ Some n → (j : ℕ) × (slice_get ops j ≡ Some (Insert q n.parent n.ch))
  insertion_told q n h =
      let f = element_there q n h in
      (f.0, slice_get-left (each insertion_of row ++ each Erase (hidden_ids row)) (waiting_in w) f.0 _ (slice_get-left (each insertion_of row) (each Erase (hidden_ids row)) f.0 _ (slice_get-to insertion_of row f.0 (element_of t (q, n)) f.1)))

  deletion_told : (q : Identifier) → set.contains t.del q ≡ true → (j : ℕ) × (slice_get ops j ≡ Some (Erase q))
  deletion_told q h =
      let n = there (map.get t.ins q) (c.only q h) in
      let f = element_there q n.0 n.1 in
      let k = hidden_place row f.0 (element_of t (q, n.0)) f.1 h in (
        length (each insertion_of row) + k.0,
        slice_get-left (each insertion_of row ++ each Erase (hidden_ids row)) (waiting_in w) (length (each insertion_of row) + k.0) _
            (slice_get-right (each insertion_of row) (each Erase (hidden_ids row)) k.0 _ refl ∙ slice_get-to Erase (hidden_ids row) k.0 q k.1),
      )

  complete : (op : OpView) → Holds (whole t w) op → (j : ℕ) × (slice_get ops j ≡ Some op)
  complete (Insert q p ch) h = which (map.get t.ins q) (map.get w.held.ins q) (record { parent = p; ch = ch }) _ (sym (get-union t w.held q) ∙ h)
      (λ e. insertion_told q (record { parent = p; ch = ch }) e) (λ _ e. late_place (Insert q p ch) e)
  complete (Erase q) h = one_of (set.contains t.del q) (set.contains w.held.del q) _ (sym (contains-union t w.held q) ∙ h) (deletion_told q) (late_place (Erase q))

  -- what is placed does not wait
  not_late : (q : Identifier) (p : Place) (ch k : ℕ) → map.contains_key t.ins q ≡ true → slice_get (waiting_in w) k ≡ Some (Insert q p ch) → ⊥
  not_late q p ch k placed h = some_not (record { parent = p; ch = ch }) ⊥ (sym (d.parted.apart q placed) ∙ (lists.each (Insert q p ch)).1 (k, h))

  not_early : (q : Identifier) (k : ℕ) → set.contains t.del q ≡ true → slice_get (waiting_in w) k ≡ Some (Erase q) → ⊥
  not_early q k marked h = true≢false (sym ((lists.each (Erase q)).1 (k, h)) ∙ d.parted.early q (c.only q marked))

  -- where an element's insertion stands
  names_of : (j : ℕ) (e : Element) (q : Identifier) (p : Place) (ch : ℕ) → slice_get row j ≡ Some e → insertion_of e ≡ Insert q p ch → slice_get (ids_of row) j ≡ Some q
  names_of j e q p ch at is =
      let same : e.id ≡ q = let f : Insert e.id e.parent e.ch ≡ Insert q p ch = is in cc in
      slice_get-to (λ (x : Element). x.id) row j e at ∙ ap (λ (x : Identifier). Some x) same

  placed_of : (j : ℕ) (e : Element) (q : Identifier) (p : Place) (ch : ℕ) → slice_get row j ≡ Some e → insertion_of e ≡ Insert q p ch → map.contains_key t.ins q ≡ true
  placed_of j e q p ch at is =
      let same : e.id ≡ q = let f : Insert e.id e.parent e.ch ≡ Insert q p ch = is in cc in
      ap (map.contains_key t.ins) (sym same) ∙ ap is_some (insertion_in j e at)

  once : Once ops
  once i j (Insert q p ch) f g = elim (insertion_place row (waiting_in w) i q p ch f) [
    | inl a ↦ elim (insertion_place row (waiting_in w) j q p ch g) [
      | inl b ↦ one_place (ids_of row) i j q apart (names_of i a.0 q p ch a.1.0 a.1.1) (names_of j b.0 q p ch b.1.0 b.1.1)
      | inr b ↦ absurd (not_late q p ch b.0 (placed_of i a.0 q p ch a.1.0 a.1.1) b.1.1)
    ]
    | inr a ↦ elim (insertion_place row (waiting_in w) j q p ch g) [
      | inl b ↦ absurd (not_late q p ch a.0 (placed_of j b.0 q p ch b.1.0 b.1.1) a.1.1)
      | inr b ↦ let same = lists.once a.0 b.0 (Insert q p ch) a.1.1 b.1.1 in let x = a.1.0 in let y = b.1.0 in omega (arith, same, x, y)
    ]
  ]
  once i j (Erase q) f g = elim (deletion_place row (waiting_in w) i q f) [
    | inl a ↦ elim (deletion_place row (waiting_in w) j q g) [
      | inl b ↦ let same = one_place (hidden_ids row) a.0 b.0 q (hidden_apart row apart) a.1.1 b.1.1 in let x = a.1.0 in let y = b.1.0 in omega (arith, same, x, y)
      | inr b ↦ absurd (not_early q b.0 (deletion_in a.0 q a.1.1) b.1.1)
    ]
    | inr a ↦ elim (deletion_place row (waiting_in w) j q g) [
      | inl b ↦ absurd (not_early q a.0 (deletion_in b.0 q b.1.1) a.1.1)
      | inr b ↦ let same = lists.once a.0 b.0 (Erase q) a.1.1 b.1.1 in let x = a.1.0 in let y = b.1.0 in omega (arith, same, x, y)
    ]
  ]

  pub once_each : ListsOnce (whole t w) (listed_by (elements t) (waiting_in w))
  once_each =
      let lists_all : Lists (whole t w) ops = λ op. (complete op, (λ f. sound op f.0 f.1)) in
      record { each = lists_all; once = once; all = lists_size ops (whole t w) lists_all once }

-- ---- the list of a desk

module _ (t : OperationSet) (w : Waiting) (site spare : ℕ) (d : Desk) (c : IsContent t) (s : IsSettled t w) (view : desk_of t w site spare ≡ d) where
  pub listed_is : listed_by (elements t) (waiting_in w) ≡ listed d
  listed_is = ap (λ row. listed_by row (waiting_in w)) (sym (elements-whole t w.held c.well s.well_formed c.tree c.only s.parted)) ∙ ap listed view

  pub listed_once : ListsOnce w.held (waiting_in w) → ListsOnce d.set (listed d)
  listed_once lists = subst (ListsOnce d.set) listed_is (subst (λ (x : Desk). ListsOnce x.set (listed_by (elements t) (waiting_in w))) view (once_each t w c s lists))

  -- as many are placed and hidden as do not wait
  pub reached : ListsOnce w.held (waiting_in w) → length (elements t) + length (hidden_ids (elements t)) + size w.held ≡ size (whole t w)
  reached lists =
      let all = (once_each t w c s lists).all in
      let late = lists.all in
      let a = length-append (each insertion_of (elements t) ++ each Erase (hidden_ids (elements t))) (waiting_in w) in
      let b = length-append (each insertion_of (elements t)) (each Erase (hidden_ids (elements t))) in
      let l0 = length-map (elements t) insertion_of in
      let l1 = length-map (hidden_ids (elements t)) Erase in
      omega arith

  pub listed_insertion : (j : ℕ) (e : Element) → slice_get (elements t) j ≡ Some e → slice_get (listed d) j ≡ Some (insertion_of e)
  listed_insertion j e h =
      let row = elements t in
      ap (λ xs. slice_get xs j) (sym listed_is)
      ∙ slice_get-left (each insertion_of row ++ each Erase (hidden_ids row)) (waiting_in w) j _ (slice_get-left (each insertion_of row) (each Erase (hidden_ids row)) j _ (slice_get-to insertion_of row j e h))

  pub listed_deletion : (j k : ℕ) (q : Identifier) → slice_get (hidden_ids (elements t)) k ≡ Some q → j ≡ length (elements t) + k → slice_get (listed d) j ≡ Some (Erase q)
  listed_deletion j k q h at =
      let row = elements t in
      let l = length-map row insertion_of in
      ap (λ xs. slice_get xs j) (sym listed_is)
      ∙ slice_get-left (each insertion_of row ++ each Erase (hidden_ids row)) (waiting_in w) j _
      (slice_get-right (each insertion_of row) (each Erase (hidden_ids row)) k j (omega arith) ∙ slice_get-to Erase (hidden_ids row) k q h)

  pub listed_late : (j k : ℕ) (op : OpView) → slice_get w.listed k ≡ Some op → k < size w.held → j ≡ length (elements t) + length (hidden_ids (elements t)) + k → slice_get (listed d) j ≡ Some op
  listed_late j k op h within at =
      let row = elements t in
      let l0 = length-map row insertion_of in
      let l1 = length-map (hidden_ids row) Erase in
      let l2 = length-append (each insertion_of row) (each Erase (hidden_ids row)) in
      ap (λ xs. slice_get xs j) (sym listed_is)
      ∙ slice_get-right (each insertion_of row ++ each Erase (hidden_ids row)) (waiting_in w) k j (omega arith) ∙ slice_get-take w.listed (size w.held) k within ∙ h

  pub size_is : size (whole t w) ≡ size d.set
  size_is = ap (λ (x : Desk). size x.set) view
