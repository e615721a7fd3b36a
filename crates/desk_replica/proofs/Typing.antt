-- What a desk makes of a character that is typed.
use Rattle.std.proofs.Common.{◌≡◌, ◌≤◌, ◌<◌, ◌+◌, ◌-◌, ℕ, zero, suc, Bool, true, false, not, cond, List, [], ◌∷◌, length, Option, None, Some, sym, ap, subst, ◌∙◌, refl, true≢false, is_some, arith}
use Rattle.std.specs.Prelude.{◌||◌, ◌&&◌, IfSome, slice_get, filter, insert, remove, map as each}
use Rattle.std.specs.Option.{option_map_or}
use Rattle.std.specs.List.{AllByRecursion}
use Rattle.std.specs.Ordering.{is_lt}
use Rattle.std.specs.FinMap as map
use Rattle.std.specs.FinSet as set
use Rattle.std.proofs.lemmas.List.Elements.{All-head, All-tail}
use Rattle.bg_types.specs.Identifier.{Identifier, id_cmp, same_id}
use Rattle.bg_types.specs.WellFormed.{IsWellFormed, MayFollow}
use Rattle.bg_types.specs.OperationSet.{Node, OperationSet, AllWellFormed, next, parent_counters, size, union, with_operation}
use Rattle.bg_types.specs.declared.op.Place.{Place}
use Rattle.bg_types.specs.declared.op.Place.TheVariants.{Root, After}
use Rattle.bg_types.specs.declared.op.OpView.TheVariants.{Insert, Erase}
use Rattle.bg_types.proofs.Interface.{id_cmp-total, same_id-is, next-above, same_sets, get-union, unwrap_first, size-with_operation}
use Rattle.rga_tree.specs.Walk.{walk}
use Rattle.rga_tree.specs.Attached.{IsAttached}
use Rattle.rga_tree.specs.TextOf.{text, visible, visible_ids, is_erased}
use Rattle.rga_tree.specs.Tree.{stands_in}
use Rattle.rga_tree.specs.Elements.{elements}
use Rattle.rga_tree.specs.Row.{start_of, place_of}
use Rattle.rga_tree.proofs.Interface.{Entry, entries_of, Rises-entries, AreWellFounded-entries, walk-among, AreDistinct, AreDistinct-walk, all_attached, all_held, all_passing, all_weaker_by, walk-leaf_at, AllWellFormed-with, IsTree-grown, OnlyErasesPlaced-grown}
use Rattle.rga_tree.specs.declared.element.Element.{Element}
use Rattle.pending_ops.specs.Waiting.{Waiting}
use Rattle.desk_replica.specs.declared.answer.TakeFault.{TakeFault}
use Rattle.desk_replica.specs.declared.answer.TakeFault.TheVariants.{IdentifierReused, Full, Memory}
use Rattle.desk_replica.specs.Reply.{IsRefused}
use Rattle.desk_replica.specs.Placement.{IsParted, IsSettled}
use Rattle.desk_replica.specs.Typing.{typed, insertion, parent_at, IsTypedAt, IsErasedAt}
use Rattle.desk_replica.proofs.Whole.{contains-union, first_none, some_not}
use Rattle.desk_replica.proofs.Lists.{all_at, slice_get-from, slice_get-to, slice_get-within}
use Rattle.desk_replica.proofs.Settled.{walk-whole, visible-whole, text-whole, in_whole}
use Rattle.desk_replica.proofs.Admitting.{IsContent}
use Rattle.desk_replica.proofs.FirstTurn.{not_held}
use Rattle.desk_replica.specs.Desk.{Desk}
use Rattle.desk_replica.proofs.Desks.{desk_of}
use Rattle.desk_replica.proofs.Typed.{filter-behind, filter-front, filter-without, each-insert, each-remove, prefix_row, none_greater, lower}
use Rattle.std.proofs.lemmas.Bool.{or_parts}

-- ---- the next counter is above all

counter_below : (s : OperationSet) (q : Identifier) (n : Node) → map.get s.ins q ≡ Some n → q.counter < next s
counter_below s q n h = All-head (λ c. c < next s) q.counter (parent_counters n.parent) (next-above s (Insert q n.parent n.ch) h)

parent_below : (s : OperationSet) (q p : Identifier) (ch : ℕ) → map.get s.ins q ≡ Some (record { parent = After p; ch = ch }) → p.counter < next s
parent_below s q p ch h = All-head (λ c. c < next s) p.counter [] (All-tail (λ c. c < next s) q.counter (p.counter ∷ []) (next-above s (Insert q (After p) ch) h))

target_below : (s : OperationSet) (q : Identifier) → set.contains s.del q ≡ true → q.counter < next s
target_below s q h = All-head (λ c. c < next s) q.counter [] (next-above s (Erase q) h)

-- so nothing is kept, erased or waited for at an identifier that has it
module _ (s : OperationSet) (id : Identifier) (is : id.counter ≡ next s) where
  pub new_ins : map.get s.ins id ≡ None
  new_ins = by (map.get s.ins id) refl
    where
      by : (o : Option Node) → map.get s.ins id ≡ o → map.get s.ins id ≡ None
      by None e = e
      by (Some n) e = absurd (let b = counter_below s id n e in omega arith)

  pub new_del : set.contains s.del id ≡ false
  new_del = by (set.contains s.del id) refl
    where
      by : (b : Bool) → set.contains s.del id ≡ b → set.contains s.del id ≡ false
      by true e = absurd (let b = target_below s id e in omega arith)
      by false e = e

  pub not_parent : (q p : Identifier) (ch : ℕ) → map.get s.ins q ≡ Some (record { parent = After p; ch = ch }) → same_id p id ≡ false
  not_parent q p ch h = by (same_id p id) refl
    where
      by : (b : Bool) → same_id p id ≡ b → same_id p id ≡ false
      by true e = absurd (let c = ap (λ (x : Identifier). x.counter) (same_id-is p id e) in let b = parent_below s q p ch h in omega arith)
      by false e = e

module _ (t h : OperationSet) (wh : AllWellFormed h) (c : IsContent t) (d : IsParted t h (λ _. false)) (id : Identifier) (parent : Place) (ch : ℕ)
    (is : id.counter ≡ next (union t h)) (formed : IsWellFormed (Insert id parent ch)) (stands : stands_in t parent ≡ true) where
  abbrev s : OperationSet
  s = union t h

  abbrev node : Node
  node = record { parent = parent; ch = ch }

  abbrev u : OperationSet
  u = with_operation t (Insert id parent ch)

  abbrev e : Element
  e = record { id = id; parent = parent; ch = ch; hidden = false }

  none : (map.get t.ins id ≡ None) × (map.get h.ins id ≡ None)
  none = not_held t h id (new_ins s id is)

  unmarked : (set.contains t.del id ≡ false) × (set.contains h.del id ≡ false)
  unmarked = or_parts (set.contains t.del id) (set.contains h.del id) (sym (contains-union t h id) ∙ new_del s id is)

  got : (q : Identifier) → map.get u.ins q ≡ cond (same_id q id) (Some node) (map.get t.ins q)
  got q = map.get-insert id_cmp-total t.ins id node q

  pub content : IsContent u
  content = record {
    well = AllWellFormed-with t (Insert id parent ch) c.well formed;
    tree = IsTree-grown t e c.tree stands;
    only = OnlyErasesPlaced-grown t e c.only;
  }

  held_in : (q : Identifier) (n : Node) → map.get h.ins q ≡ Some n → map.get s.ins q ≡ Some n
  held_in q n k = get-union t h q ∙ first_none (map.get t.ins q) (map.get h.ins q) (by (map.get t.ins q) refl) ∙ k
    where
      by : (o : Option Node) → map.get t.ins q ≡ o → map.get t.ins q ≡ None
      by None f = f
      by (Some m) f = some_not n _ (sym (d.apart q (ap is_some f)) ∙ k)

  pub parted : IsParted u h (λ _. false)
  parted = record {
    apart = λ q k. apart q (same_id q id) refl (ap is_some (sym (got q)) ∙ k);
    stands = λ q n k r. absurd (true≢false (sym r));
    waits = λ q n k r. waits q n.parent n.ch k;
    early = λ q k. early q (same_id q id) refl (ap is_some (sym (got q)) ∙ k);
  }
    where
      apart : (q : Identifier) (b : Bool) → same_id q id ≡ b → is_some (cond b (Some node) (map.get t.ins q)) ≡ true → map.get h.ins q ≡ None
      apart q true same k = ap (map.get h.ins) (same_id-is q id same) ∙ none.1
      apart q false same k = d.apart q k

      waits : (q : Identifier) (p : Place) (x : ℕ) → map.get h.ins q ≡ Some (record { parent = p; ch = x }) → stands_in u p ≡ false
      waits q Root x k = d.waits q (record { parent = Root; ch = x }) k refl
      waits q (After p) x k = ap is_some (got p) ∙ ap (λ b. is_some (cond b (Some node) (map.get t.ins p))) (not_parent s id is q p x (held_in q (record { parent = After p; ch = x }) k)) ∙ d.waits q (record { parent = After p; ch = x }) k refl

      early : (q : Identifier) (b : Bool) → same_id q id ≡ b → is_some (cond b (Some node) (map.get t.ins q)) ≡ true → set.contains h.del q ≡ false
      early q true same k = ap (set.contains h.del) (same_id-is q id same) ∙ unmarked.1
      early q false same k = d.early q k

  pub same_set : union u h ≡ with_operation s (Insert id parent ch)
  same_set = same_sets (union u h) (with_operation s (Insert id parent ch))
      (λ q. get-union u h q ∙ ap (λ o. unwrap_first o (map.get h.ins q)) (got q) ∙ by (same_id q id) (map.get t.ins q) (map.get h.ins q)
      ∙ ap (cond (same_id q id) (Some node)) (sym (get-union t h q)) ∙ sym (map.get-insert id_cmp-total s.ins id node q))
      (λ q. refl)
    where
      by : (b : Bool) (x y : Option Node) → unwrap_first (cond b (Some node) x) y ≡ cond b (Some node) (unwrap_first x y)
      by true x y = refl
      by false x y = refl

  walk_new : walk u Root ≡ insert (walk t Root) (place_of parent id (elements t)) (id, node)
  walk_new = walk-leaf_at t id node c.well c.tree formed stands (ap is_some none.0)

  walk_s : walk s Root ≡ walk t Root
  walk_s = walk-whole t h c.well wh c.tree c.only d

  pub walk_typed : walk (with_operation s (Insert id parent ch)) Root ≡ insert (walk s Root) (place_of parent id (elements t)) (id, node)
  walk_typed = ap (λ x. walk x Root) (sym same_set) ∙ walk-whole u h content.well wh content.tree content.only parted ∙ walk_new ∙ ap (λ w. insert w (place_of parent id (elements t)) (id, node)) (sym walk_s)

  abbrev seen : Entry → Bool
  seen x = not (is_erased t x.0)

  below_all : AllByRecursion (λ (x : Entry). is_lt (id_cmp id x.0) ≡ false) (walk t Root)
  below_all = all_weaker_by (λ x. map.get t.ins x.0 ≡ Some x.1) (λ x. is_lt (id_cmp id x.0) ≡ false) (walk t Root)
      (λ x k. let b = counter_below s x.0 x.1 (in_whole t h c.well wh c.tree c.only d x.0 x.1 k) in lower id x.0 (omega arith)) (all_held t (map.len t.ins) Root)

  place_is : place_of parent id (elements t) ≡ start_of parent (elements t)
  place_is = let z = none_greater t id (start_of parent (elements t)) (walk t Root) below_all in omega arith

  passes : seen (id, node) ≡ true
  passes = ap not unmarked.0

  distinct : AreDistinct (walk t Root)
  distinct = subst AreDistinct (sym (walk-among t Root c.well)) (AreDistinct-walk (entries_of t) Root (Rises-entries t) (AreWellFounded-entries t c.well))

  -- where the leaf goes in among what is visible, so does its character
  pub text_typed : (k : ℕ) → filter seen (insert (walk t Root) (place_of parent id (elements t)) (id, node)) ≡ insert (filter seen (walk t Root)) k (id, node)
      → text (with_operation s (Insert id parent ch)) ≡ insert (text s) k ch
  text_typed k at =
      ap text (sym same_set) ∙ text-whole u h content.well wh content.tree content.only parted
      ∙ ap (λ w. each (λ (x : Entry). x.1.ch) (filter seen w)) walk_new ∙ ap (each (λ (x : Entry). x.1.ch)) at
      ∙ each-insert (λ (x : Entry). x.1.ch) (filter seen (walk t Root)) k (id, node)
      ∙ ap (λ x. insert x k ch) (sym (text-whole t h c.well wh c.tree c.only d))

typed_front : (t h : OperationSet) (site ch : ℕ) → AllWellFormed h → IsContent t → IsParted t h (λ _. false) → IsWellFormed (Insert (record { counter = next (union t h); site = site }) Root ch)
    → IsTypedAt (union t h) (with_operation (union t h) (Insert (record { counter = next (union t h); site = site }) Root ch)) 0 (record { counter = next (union t h); site = site }, record { parent = Root; ch = ch })
typed_front t h site ch wh c d formed =
    let id : Identifier = record { counter = next (union t h); site = site } in
    let n : Entry = (id, record { parent = Root; ch = ch }) in
    let p : Entry → Bool = λ x. not (is_erased t x.0) in
    record {
      walk_is = (place_of Root id (elements t), walk_typed t h wh c d id Root ch refl formed refl);
      text_is = text_typed t h wh c d id Root ch refl formed refl 0
          (ap (λ k. filter p (insert (walk t Root) k n)) (place_is t h wh c d id Root ch refl formed refl) ∙ filter-front p n (walk t Root) (passes t h wh c d id Root ch refl formed refl));
    }

typed_behind : (t h : OperationSet) (site ch j : ℕ) (x : Entry) → AllWellFormed h → IsContent t → IsParted t h (λ _. false) → slice_get (visible (union t h)) j ≡ Some x
    → IsWellFormed (Insert (record { counter = next (union t h); site = site }) (After x.0) ch)
    → IsTypedAt (union t h) (with_operation (union t h) (Insert (record { counter = next (union t h); site = site }) (After x.0) ch)) (suc j) (record { counter = next (union t h); site = site }, record { parent = After x.0; ch = ch })
typed_behind t h site ch j x wh c d at formed =
    let id : Identifier = record { counter = next (union t h); site = site } in
    let n : Entry = (id, record { parent = After x.0; ch = ch }) in
    let p : Entry → Bool = λ y. not (is_erased t y.0) in
    let seen_t : slice_get (filter p (walk t Root)) j ≡ Some x = ap (λ l. slice_get l j) (sym (visible-whole t h c.well wh c.tree c.only d)) ∙ at in
    let kept : map.get t.ins x.0 ≡ Some x.1 = all_at (λ (y : Entry). map.get t.ins y.0 ≡ Some y.1) (filter p (walk t Root)) j x
    (all_passing (λ y. map.get t.ins y.0 ≡ Some y.1) p (walk t Root) (all_weaker_by (λ y. map.get t.ins y.0 ≡ Some y.1) (λ y. p y ≡ true → map.get t.ins y.0 ≡ Some y.1) (walk t Root) (λ y k _. k) (all_held t (map.len t.ins) Root))) seen_t in
    let there : stands_in t (After x.0) ≡ true = ap is_some kept in
    let row = prefix_row t x.0 (walk t Root) in
    let start = place_is t h wh c d id (After x.0) ch refl formed there in
    record {
      walk_is = (place_of (After x.0) id (elements t), walk_typed t h wh c d id (After x.0) ch refl formed there);
      text_is = text_typed t h wh c d id (After x.0) ch refl formed there (suc j)
          (filter-behind p n (walk t Root) j (place_of (After x.0) id (elements t)) x (passes t h wh c d id (After x.0) ch refl formed there) (distinct t h wh c d id (After x.0) ch refl formed there) seen_t
          (start ∙ ap (λ k. k + 1) row));
    }

pub typed_at : (t h : OperationSet) (site k ch : ℕ) → AllWellFormed h → IsContent t → IsParted t h (λ _. false) → k ≤ length (visible (union t h)) → IsWellFormed (insertion (typed (union t h) site k ch))
    → IsTypedAt (union t h) (with_operation (union t h) (insertion (typed (union t h) site k ch))) k (typed (union t h) site k ch)
typed_at t h site zero ch wh c d le formed = typed_front t h site ch wh c d formed
typed_at t h site (suc j) ch wh c d le formed =
    let s = union t h in
    let f = slice_get-within (visible s) j (omega arith) in
    let pe : After f.0.0 ≡ parent_at (visible_ids s) (suc j) = ap (λ o. option_map_or After o Root) (sym (slice_get-to (λ (x : Entry). x.0) (visible s) j f.0 f.1)) in
    let id : Identifier = record { counter = next s; site = site } in
    subst (λ p. IsWellFormed (Insert id p ch) → IsTypedAt s (with_operation s (Insert id p ch)) (suc j) (id, record { parent = p; ch = ch })) pe (typed_behind t h site ch j f.0 wh c d f.1) formed

pub parent_is : (ids : List Identifier) (k : ℕ) (a : Identifier) → 0 < k → slice_get ids (k - 1) ≡ Some a → After a ≡ parent_at ids k
parent_is ids zero a some h = absurd (omega arith)
parent_is ids (suc j) a some h =
    let at : slice_get ids j ≡ Some a = ap (slice_get ids) (omega arith) ∙ h in
    ap (λ o. option_map_or After o Root) (sym at)

pub parent_before : (s : OperationSet) (k : ℕ) (id : Identifier) → AllWellFormed s → k ≤ length (visible s) → id.counter ≡ next s → MayFollow (parent_at (visible_ids s) k) id
parent_before s zero id well le e = tt
parent_before s (suc j) id well le e =
    let f = slice_get-within (visible s) j (omega arith) in
    let pe : After f.0.0 ≡ parent_at (visible_ids s) (suc j) = ap (λ o. option_map_or After o Root) (sym (slice_get-to (λ (x : Entry). x.0) (visible s) j f.0 f.1)) in
    let p : Entry → Bool = λ y. not (is_erased s y.0) in
    let kept : map.get s.ins f.0.0 ≡ Some f.0.1 = all_at (λ (y : Entry). map.get s.ins y.0 ≡ Some y.1) (filter p (walk s Root)) j f.0
    (all_passing (λ y. map.get s.ins y.0 ≡ Some y.1) p (walk s Root) (all_weaker_by (λ y. map.get s.ins y.0 ≡ Some y.1) (λ y. p y ≡ true → map.get s.ins y.0 ≡ Some y.1) (walk s Root) (λ y k _. k) (all_held s (map.len s.ins) Root))) f.1 in
    let low = counter_below s f.0.0 f.0.1 kept in
    subst (λ q. MayFollow q id) pe ((well (Insert f.0.0 f.0.1.parent f.0.1.ch) kept).0, omega arith)

pub at_some : {X : Type 0} (o : Option X) (x : X) (P : X → Type 0) → o ≡ Some x → IfSome o P → P x
at_some o x P same h = subst (λ y. IfSome y P) same h

pub typed_desk : (t : OperationSet) (w : Waiting) (own spare : ℕ) (d : Desk) → IsContent t → IsSettled t w → desk_of t w own spare ≡ d → (site k ch : ℕ) → k ≤ length (visible d.set) → IsWellFormed (insertion (typed d.set site k ch))
    → IsTypedAt d.set (with_operation d.set (insertion (typed d.set site k ch))) k (typed d.set site k ch)
typed_desk t w own spare d c s view site k ch =
    subst (λ (x : Desk). k ≤ length (visible x.set) → IsWellFormed (insertion (typed x.set site k ch)) → IsTypedAt x.set (with_operation x.set (insertion (typed x.set site k ch))) k (typed x.set site k ch)) view
    (typed_at t w.held site k ch s.well_formed c s.parted)

-- what is typed has a new identifier, so that only lack of memory is left to refuse it within the limit
pub typed_refused : (s : OperationSet) (site k ch : ℕ) (fault : TakeFault) → size s < 1_000_000 → IsRefused s (insertion (typed s site k ch)) fault → fault ≡ Memory
typed_refused s site k ch IdentifierReused few r = some_not r.0 _ (sym (new_ins s (record { counter = next s; site = site }) refl) ∙ r.1)
typed_refused s site k ch Full few r = absurd (omega (arith, few, r.2))
typed_refused s site k ch Memory few r = refl

-- ---- erasing at a place

-- what is visible loses it
pub visible_erased : (s : OperationSet) (k : ℕ) (target : Identifier) → AllWellFormed s → slice_get (visible_ids s) k ≡ Some target → visible (with_operation s (Erase target)) ≡ remove (visible s) k
visible_erased s k target well at =
    let f = slice_get-from (λ (x : Entry). x.0) (visible s) k target at in
    let p : Entry → Bool = λ y. not (is_erased s y.0) in
    let q : Entry → Bool = λ y. not (is_erased (with_operation s (Erase target)) y.0) in
    let distinct : AreDistinct (walk s Root) = subst AreDistinct (sym (walk-among s Root well)) (AreDistinct-walk (entries_of s) Root (Rises-entries s) (AreWellFounded-entries s well)) in
    let marks : (y : Entry) → q y ≡ (not (same_id y.0 f.0.0) && p y) = λ y. ap not (set.contains-insert id_cmp-total s.del target y.0) ∙ both (same_id y.0 target) (is_erased s y.0) ∙ ap (λ a. not (same_id y.0 a) && p y) (sym f.1.1) in
    filter-without p q (walk s Root) k f.0 marks distinct f.1.0
  where
    both : (a b : Bool) → not (a || b) ≡ (not a && not b)
    both true b = refl
    both false b = refl

pub erased_at : (s : OperationSet) (k : ℕ) (target : Identifier) → AllWellFormed s → slice_get (visible_ids s) k ≡ Some target → IsErasedAt s (with_operation s (Erase target)) k (Erase target)
erased_at s k target well at = record {
  target = target;
  at = at;
  op_is = refl;
  set_is = refl;
  text_is = ap (each (λ (x : Entry). x.1.ch)) (visible_erased s k target well at) ∙ each-remove (λ (x : Entry). x.1.ch) (visible s) k;
  walk_is = refl;
}

pub visible_attached : (s : OperationSet) (k : ℕ) (target : Identifier) → slice_get (visible_ids s) k ≡ Some target → IsAttached s.ins target
visible_attached s k target at =
    let f = slice_get-from (λ (x : Entry). x.0) (visible s) k target at in
    let p : Entry → Bool = λ y. not (is_erased s y.0) in
    subst (λ q. IsAttached s.ins q) f.1.1 (all_at (λ (y : Entry). IsAttached s.ins y.0) (filter p (walk s Root)) k f.0
    (all_passing (λ y. IsAttached s.ins y.0) p (walk s Root) (all_weaker_by (λ y. IsAttached s.ins y.0) (λ y. p y ≡ true → IsAttached s.ins y.0) (walk s Root) (λ y h _. h) (all_attached s (map.len s.ins) Root tt))) f.1.0)

-- a deletion of what is attached is refused only where the desk is full
pub erase_full : (s : OperationSet) (target : Identifier) (fault : TakeFault) → IsAttached s.ins target → IsRefused s (Erase target) fault → size s ≡ 1_000_000
erase_full s target IdentifierReused at r = absurd r
erase_full s target Full at r = r.2
erase_full s target Memory at r = absurd (r.1 at)

-- a visible character is not erased, so its deletion is new, and it was made within the limit
pub erasure_new : (s : OperationSet) (k : ℕ) (target : Identifier) → slice_get (visible_ids s) k ≡ Some target → set.contains s.del target ≡ false
erasure_new s k target at =
    let f = slice_get-from (λ (x : Entry). x.0) (visible s) k target at in
    let p : Entry → Bool = λ y. not (is_erased s y.0) in
    subst (λ q. set.contains s.del q ≡ false) f.1.1 (all_at (λ (y : Entry). is_erased s y.0 ≡ false) (filter p (walk s Root)) k f.0
    (all_passing (λ y. is_erased s y.0 ≡ false) p (walk s Root) (all_weaker_by (λ y. IsAttached s.ins y.0) (λ y. p y ≡ true → is_erased s y.0 ≡ false) (walk s Root) (λ y h passes. seen (is_erased s y.0) passes) (all_attached s (map.len s.ins) Root tt))) f.1.0)
  where
    seen : (b : Bool) → not b ≡ true → b ≡ false
    seen true e = absurd (true≢false (sym e))
    seen false e = refl

pub erase_within : (s : OperationSet) (k : ℕ) (target : Identifier) → slice_get (visible_ids s) k ≡ Some target → size (with_operation s (Erase target)) ≤ 1_000_000 → size s < 1_000_000
erase_within s k target at limited =
    let grown = size-with_operation s (Erase target) tt (λ h. true≢false (sym h ∙ erasure_new s k target at)) in
    omega (arith, grown, limited)
