-- What one more operation does to a set.
use Rattle.std.proofs.Common.{◌≡◌, Bool, true, false, cond, ◌||◌, Option, Some, refl, sym, ap, subst, ◌∙◌}
use Rattle.std.specs.Prelude.{is_some}
use Rattle.std.specs.Ordering.{eq_by_cmp}
use Rattle.std.proofs.lemmas.Bool.{or_right}
use Rattle.std.specs.Cmp.{eq_by_cmp_equiv}
use Rattle.std.specs.FinMap as map
use Rattle.std.specs.FinSet as set
use Rattle.bg_types.specs.Identifier.{Identifier, id_cmp, same_id}
use Rattle.bg_types.specs.WellFormed.{IsWellFormed}
use Rattle.bg_types.specs.OperationSet.{Node, OperationSet, AllWellFormed, with_operation}
use Rattle.bg_types.specs.declared.op.Place.{Place}
use Rattle.bg_types.specs.declared.op.Place.TheVariants.{Root, After}
use Rattle.bg_types.specs.declared.op.OpView.{OpView}
use Rattle.bg_types.specs.declared.op.OpView.TheVariants.{Insert, Erase}
use Rattle.bg_types.proofs.Interface.{id_cmp-total, same_id-is, same_id-itself}
use Rattle.rga_tree.specs.declared.element.Element.{Element}
use Rattle.rga_tree.specs.Walk.{walk}
use Rattle.rga_tree.specs.TextOf.{is_erased}
use Rattle.rga_tree.specs.Tree.{stands_in, IsTree, OnlyErasesPlaced}
use Rattle.rga_tree.specs.Elements.{with_element}
use Rattle.rga_tree.proofs.WalkAmong.{IsChildless, walk_among, among, walk-with_new}
use Rattle.rga_tree.proofs.Entries.{IsAbsent, entries_of, low_of, Rises-entries, AreWellFounded-entries}
use Rattle.rga_tree.proofs.Depth.{walk-among}

abbrev pub node_of : Element → Node
node_of n = record { parent = n.parent; ch = n.ch }

-- the set with one more element, its two parts apart
abbrev pub grown : OperationSet → Element → OperationSet
grown s n = record { ins = map.insert s.ins n.id (node_of n); del = cond n.hidden (set.insert s.del n.id) s.del }

pub with_element-grown : (s : OperationSet) (n : Element) → with_element s n ≡ grown s n
with_element-grown s n =
    let t = with_operation s (Insert n.id n.parent n.ch) in
    elim n.hidden as (λ b. cond b (with_operation t (Erase n.id)) t ≡ record { ins = map.insert s.ins n.id (node_of n); del = cond b (set.insert s.del n.id) s.del }) [ true ↦ refl | false ↦ refl ]

-- ---- well-formed operations

AllWellFormed-insert : (s : OperationSet) (id : Identifier) (node : Node) → AllWellFormed s → IsWellFormed (Insert id node.parent node.ch) → AllWellFormed (with_operation s (Insert id node.parent node.ch))
AllWellFormed-insert s id node well is (Erase target) held = well (Erase target) held
AllWellFormed-insert s id node well is (Insert k parent ch) held =
    let m : Node = record { parent = parent; ch = ch } in
    let was : cond (eq_by_cmp id_cmp k id) (Some node) (map.get s.ins k) ≡ Some m = sym (map.get-insert id_cmp-total s.ins id node k) ∙ held in
    elim (eq_by_cmp id_cmp k id) as (λ b. eq_by_cmp id_cmp k id ≡ b → cond b (Some node) (map.get s.ins k) ≡ Some m → IsWellFormed (Insert k parent ch)) [
      | true ↦ λ here h.
          let same : node ≡ m = cc in
          subst (λ (n : Node). IsWellFormed (Insert k n.parent n.ch)) same (subst (λ j. IsWellFormed (Insert j node.parent node.ch)) (sym (same_id-is k id here)) is)
      | false ↦ λ _ h. well (Insert k parent ch) h
    ] refl was

AllWellFormed-erase : (s : OperationSet) (id : Identifier) → AllWellFormed s → IsWellFormed (Erase id) → AllWellFormed (with_operation s (Erase id))
AllWellFormed-erase s id well is (Insert k parent ch) held = well (Insert k parent ch) held
AllWellFormed-erase s id well is (Erase target) held =
    let was : (eq_by_cmp id_cmp target id || set.contains s.del target) ≡ true = sym (set.contains-insert id_cmp-total s.del id target) ∙ held in
    elim (eq_by_cmp id_cmp target id) as (λ b. eq_by_cmp id_cmp target id ≡ b → (b || set.contains s.del target) ≡ true → IsWellFormed (Erase target)) [
      | true ↦ λ here _. subst (λ j. IsWellFormed (Erase j)) (sym (same_id-is target id here)) is
      | false ↦ λ _ h. well (Erase target) h
    ] refl was

-- S + op of a well-formed operation
pub AllWellFormed-with : (s : OperationSet) (op : OpView) → AllWellFormed s → IsWellFormed op → AllWellFormed (with_operation s op)
AllWellFormed-with s (Insert id parent ch) well is = AllWellFormed-insert s id (record { parent = parent; ch = ch }) well is
AllWellFormed-with s (Erase id) well is = AllWellFormed-erase s id well is

pub AllWellFormed-element : (s : OperationSet) (n : Element) → AllWellFormed s → IsWellFormed (Insert n.id n.parent n.ch) → AllWellFormed (with_element s n)
AllWellFormed-element s n well is =
    let t = with_operation s (Insert n.id n.parent n.ch) in
    let well_t = AllWellFormed-with s (Insert n.id n.parent n.ch) well is in
    elim n.hidden as (λ b. AllWellFormed (cond b (with_operation t (Erase n.id)) t)) [ true ↦ AllWellFormed-with t (Erase n.id) well_t is.0 | false ↦ well_t ]

-- ---- the tree

-- what is placed stays placed, and so does the new one
placed_on : (s : OperationSet) (n : Element) (q : Identifier) → (eq_by_cmp id_cmp q n.id || map.contains_key s.ins q) ≡ true → map.contains_key (grown s n).ins q ≡ true
placed_on s n q h = ap is_some (map.get-insert id_cmp-total s.ins n.id (node_of n) q) ∙ by_test (eq_by_cmp id_cmp q n.id) (map.get s.ins q) h where
  by_test : (b : Bool) (o : Option Node) → (b || is_some o) ≡ true → is_some (cond b (Some (node_of n)) o) ≡ true
  by_test true o h = refl
  by_test false o h = h

stands_on : (s : OperationSet) (n : Element) (p : Place) → stands_in s p ≡ true → stands_in (grown s n) p ≡ true
stands_on s n Root h = refl
stands_on s n (After a) h = placed_on s n a (ap (λ b. eq_by_cmp id_cmp a n.id || b) h ∙ or_right (eq_by_cmp id_cmp a n.id) true refl)

pub IsTree-grown : (s : OperationSet) (n : Element) → IsTree s → stands_in s n.parent ≡ true → IsTree (grown s n)
IsTree-grown s n tree stands id node found =
    let was : cond (eq_by_cmp id_cmp id n.id) (Some (node_of n)) (map.get s.ins id) ≡ Some node = sym (map.get-insert id_cmp-total s.ins n.id (node_of n) id) ∙ found in
    elim (eq_by_cmp id_cmp id n.id) as (λ b. cond b (Some (node_of n)) (map.get s.ins id) ≡ Some node → stands_in (grown s n) node.parent ≡ true) [
      | true ↦ λ is.
          let same : node_of n ≡ node = cc in
          stands_on s n node.parent (subst (λ (m : Node). stands_in s m.parent ≡ true) same stands)
      | false ↦ λ is. stands_on s n node.parent (tree id node is)
    ] was

pub OnlyErasesPlaced-grown : (s : OperationSet) (n : Element) → OnlyErasesPlaced s → OnlyErasesPlaced (grown s n)
OnlyErasesPlaced-grown s n only id held =
    placed_on s n id (by_mark n.hidden held) where
      by_mark : (b : Bool) → set.contains (cond b (set.insert s.del n.id) s.del) id ≡ true → (eq_by_cmp id_cmp id n.id || map.contains_key s.ins id) ≡ true
      by_mark true h =
          let was : (eq_by_cmp id_cmp id n.id || set.contains s.del id) ≡ true = sym (set.contains-insert id_cmp-total s.del n.id id) ∙ h in
          elim (eq_by_cmp id_cmp id n.id) as (λ c. (c || set.contains s.del id) ≡ true → (c || map.contains_key s.ins id) ≡ true) [ true ↦ λ _. refl | false ↦ λ k. only id k ] was
      by_mark false h = ap (λ b. eq_by_cmp id_cmp id n.id || b) (only id h) ∙ or_right (eq_by_cmp id_cmp id n.id) true refl

pub OnlyErasesPlaced-erase : (s : OperationSet) (id : Identifier) → OnlyErasesPlaced s → map.contains_key s.ins id ≡ true → OnlyErasesPlaced (with_operation s (Erase id))
OnlyErasesPlaced-erase s id only stands q held =
    let was : (eq_by_cmp id_cmp q id || set.contains s.del q) ≡ true = sym (set.contains-insert id_cmp-total s.del id q) ∙ held in
    elim (eq_by_cmp id_cmp q id) as (λ b. eq_by_cmp id_cmp q id ≡ b → (b || set.contains s.del q) ≡ true → map.contains_key s.ins q ≡ true) [
      | true ↦ λ here _. ap (map.contains_key s.ins) (same_id-is q id here) ∙ stands
      | false ↦ λ _ h. only q h
    ] refl was

-- ---- the walk

-- the walk with one more insertion, which is no parent: after its own parent, and after all greater ones that follow there
pub walk-new : (s : OperationSet) (id : Identifier) (node : Node) → AllWellFormed s → IsWellFormed (Insert id node.parent node.ch) → IsAbsent id (entries_of s) → IsChildless id (entries_of s)
    → walk (with_operation s (Insert id node.parent node.ch)) Root ≡ among (id, node) Root (walk s Root)
walk-new s id node well is absent childless =
    walk-among (with_operation s (Insert id node.parent node.ch)) Root (AllWellFormed-with s (Insert id node.parent node.ch) well is)
    ∙ ap (λ l. walk_among l Root) (map.entries-insert id_cmp-total s.ins id node)
    ∙ walk-with_new (id, node) (entries_of s) Root (Rises-entries s) (AreWellFounded-entries s well) childless (low_of node.parent id is.1) absent
    ∙ ap (among (id, node) Root) (sym (walk-among s Root well))

-- ---- the marks

pub same_id-swap : (a b : Identifier) → same_id a b ≡ same_id b a
same_id-swap a b = (eq_by_cmp_equiv id_cmp-total).symm a b

-- the marks of the others stay, and the new one has its own
pub mark_kept : (s : OperationSet) (n : Element) (q : Identifier) → same_id n.id q ≡ false → is_erased (grown s n) q ≡ is_erased s q
mark_kept s n q other =
    elim n.hidden as (λ b. set.contains (cond b (set.insert s.del n.id) s.del) q ≡ set.contains s.del q) [
      | true ↦ set.contains-insert id_cmp-total s.del n.id q ∙ ap (λ b. b || set.contains s.del q) (same_id-swap q n.id ∙ other)
      | false ↦ refl
    ]

pub mark_new : (s : OperationSet) (n : Element) → set.contains s.del n.id ≡ false → is_erased (grown s n) n.id ≡ n.hidden
mark_new s n fresh =
    elim n.hidden as (λ b. set.contains (cond b (set.insert s.del n.id) s.del) n.id ≡ b) [
      | true ↦ set.contains-insert id_cmp-total s.del n.id n.id ∙ ap (λ b. b || set.contains s.del n.id) (same_id-itself n.id)
      | false ↦ fresh
    ]
