-- One insertion is taken from what waits and placed.
use Rattle.std.proofs.Common.{◌≡◌, Bool, true, false, not, cond, Option, None, Some, sym, ap, ◌∙◌, refl, true≢false, is_some}
use Rattle.std.specs.Prelude.{◌||◌, ◌&&◌}
use Rattle.std.specs.Option.{option_map_or}
use Rattle.std.specs.FinMap as map
use Rattle.std.specs.FinSet as set
use Rattle.bg_types.specs.Identifier.{Identifier, same_id}
use Rattle.bg_types.specs.OperationSet.{Node, OperationSet, union}
use Rattle.bg_types.specs.declared.op.Place.{Place}
use Rattle.bg_types.specs.declared.op.Place.TheVariants.{Root, After}
use Rattle.bg_types.proofs.Interface.{id_cmp-total, same_id-is, unwrap_first}
use Rattle.rga_tree.specs.Tree.{stands_in}
use Rattle.rga_tree.specs.Elements.{with_element}
use Rattle.pending_ops.specs.Waiting.{Waiting, follows, is_after}
use Rattle.desk_replica.specs.Placement.{IsParted, PlacesIn}
use Rattle.desk_replica.proofs.Whole.{some_not, same_unions}
use Rattle.std.proofs.lemmas.Bool.{or_parts}

-- what is placed and held after one step, at each identifier
pub record Stepped (t h : OperationSet) (ready : Identifier → Bool) (id : Identifier) (node : Node) (u v : OperationSet) (next : Identifier → Bool) : Type 0 where
  pub was : map.get h.ins id ≡ Some node
  pub placed_ins : (q : Identifier) → map.get u.ins q ≡ cond (same_id q id) (Some node) (map.get t.ins q)
  pub placed_del : (q : Identifier) → set.contains u.del q ≡ ((same_id q id && set.contains h.del id) || set.contains t.del q)
  pub held_ins : (q : Identifier) → map.get v.ins q ≡ cond (same_id q id) None (map.get h.ins q)
  pub held_del : (q : Identifier) → set.contains v.del q ≡ (not (same_id q id) && set.contains h.del q)
  pub ready_next : (q : Identifier) → next q ≡ ((not (same_id q id) && ready q) || follows v id q)

module _ (t h : OperationSet) (ready : Identifier → Bool) (id : Identifier) (node : Node) (u v : OperationSet) (next : Identifier → Bool)
    (d : IsParted t h ready) (s : Stepped t h ready id node u v next) where
  -- not placed, since it is held
  fresh : map.get t.ins id ≡ None
  fresh = by (map.get t.ins id) refl
    where
      by : (o : Option Node) → map.get t.ins id ≡ o → map.get t.ins id ≡ None
      by None e = e
      by (Some n) e = some_not node (map.get t.ins id ≡ None) (sym (d.apart id (ap is_some e)) ∙ s.was)

  by_both : (q : Identifier) → (b : Bool) → is_some (cond b (Some node) (map.get t.ins q)) ≡ true → cond b None (map.get h.ins q) ≡ None
  by_both q true e = refl
  by_both q false e = d.apart q e

  apart_now : (q : Identifier) → map.contains_key u.ins q ≡ true → map.get v.ins q ≡ None
  apart_now q e = s.held_ins q ∙ by_both q (same_id q id) (ap is_some (sym (s.placed_ins q)) ∙ e)

  grows : (p : Place) → stands_in t p ≡ true → stands_in u p ≡ true
  grows Root e = refl
  grows (After a) e = ap is_some (s.placed_ins a) ∙ by (same_id a id)
    where
      by : (b : Bool) → is_some (cond b (Some node) (map.get t.ins a)) ≡ true
      by true = refl
      by false = e

  child_there : (p : Place) → is_after p id ≡ true → stands_in u p ≡ true
  child_there Root e = absurd (true≢false (sym e))
  child_there (After a) e = ap is_some (s.placed_ins a ∙ ap (λ b. cond b (Some node) (map.get t.ins a)) e)

  still_absent : (p : Place) → is_after p id ≡ false → stands_in t p ≡ false → stands_in u p ≡ false
  still_absent Root e k = absurd (true≢false k)
  still_absent (After a) e k = ap is_some (s.placed_ins a ∙ ap (λ b. cond b (Some node) (map.get t.ins a)) e) ∙ k

  -- what is still held was, and what made it ready
  back : (q : Identifier) (n : Node) (b : Bool) → cond b None (map.get h.ins q) ≡ Some n → (b ≡ false) × (map.get h.ins q ≡ Some n)
  back q n true e = some_not n ((true ≡ false) × (map.get h.ins q ≡ Some n)) e
  back q n false e = (refl, e)

  ready_now : (q : Identifier) (n : Node) → map.get v.ins q ≡ Some n → next q ≡ (ready q || is_after n.parent id)
  ready_now q n e =
      let b = back q n (same_id q id) (sym (s.held_ins q) ∙ e) in
      s.ready_next q ∙ (λ i. (not (b.0 i) && ready q) || option_map_or (λ (m : Node). is_after m.parent id) (e i) false)

  stands_now : (q : Identifier) (n : Node) → map.get v.ins q ≡ Some n → next q ≡ true → stands_in u n.parent ≡ true
  stands_now q n e r =
      let b = back q n (same_id q id) (sym (s.held_ins q) ∙ e) in
      by (ready q) refl (sym (ready_now q n e) ∙ r) b.1
    where
      by : (c : Bool) → ready q ≡ c → (ready q || is_after n.parent id) ≡ true → map.get h.ins q ≡ Some n → stands_in u n.parent ≡ true
      by true c k f = grows n.parent (d.stands q n f c)
      by false c k f = child_there n.parent (sym (ap (λ x. x || is_after n.parent id) c) ∙ k)

  waits_now : (q : Identifier) (n : Node) → map.get v.ins q ≡ Some n → next q ≡ false → stands_in u n.parent ≡ false
  waits_now q n e r =
      let b = back q n (same_id q id) (sym (s.held_ins q) ∙ e) in
      let k = or_parts (ready q) (is_after n.parent id) (sym (ready_now q n e) ∙ r) in
      still_absent n.parent k.1 (d.waits q n b.1 k.0)

  early_now : (q : Identifier) → map.contains_key u.ins q ≡ true → set.contains v.del q ≡ false
  early_now q e = s.held_del q ∙ by (same_id q id) (ap is_some (sym (s.placed_ins q)) ∙ e)
    where
      by : (b : Bool) → is_some (cond b (Some node) (map.get t.ins q)) ≡ true → (not b && set.contains h.del q) ≡ false
      by true e = refl
      by false e = d.early q e

  pub parted_now : IsParted u v next
  parted_now = record { apart = apart_now; stands = stands_now; waits = waits_now; early = early_now }

  ins_by : (q : Identifier) (b : Bool) → same_id q id ≡ b → unwrap_first (cond b (Some node) (map.get t.ins q)) (cond b None (map.get h.ins q)) ≡ unwrap_first (map.get t.ins q) (map.get h.ins q)
  ins_by q true e =
      let same : q ≡ id = same_id-is q id e in
      sym (λ i. unwrap_first ((ap (λ x. map.get t.ins x) same ∙ fresh) i) ((ap (λ x. map.get h.ins x) same ∙ s.was) i))
  ins_by q false e = refl

  or_swap : (a b : Bool) → ((a || b) || false) ≡ (b || a)
  or_swap true true = refl
  or_swap true false = refl
  or_swap false true = refl
  or_swap false false = refl

  del_by : (q : Identifier) (b : Bool) → same_id q id ≡ b → (((b && set.contains h.del id) || set.contains t.del q) || (not b && set.contains h.del q)) ≡ (set.contains t.del q || set.contains h.del q)
  del_by q true e = or_swap (set.contains h.del id) (set.contains t.del q) ∙ ap (λ x. set.contains t.del q || set.contains h.del x) (sym (same_id-is q id e))
  del_by q false e = refl

  pub same_now : union u v ≡ union t h
  same_now = same_unions t h u v
      (λ q. (λ i. unwrap_first (s.placed_ins q i) (s.held_ins q i)) ∙ ins_by q (same_id q id) refl)
      (λ q. (λ i. s.placed_del q i || s.held_del q i) ∙ del_by q (same_id q id) refl)

and_false : (a : Bool) → false ≡ (a && false)
and_false true = refl
and_false false = refl

and_true : (a : Bool) → a ≡ (a && true)
and_true true = refl
and_true false = refl

-- what placing does, at each identifier
module _ (t : OperationSet) (w : Waiting) (id : Identifier) (node : Node) (u : OperationSet) (v : Waiting) (p : PlacesIn t w (id, node) u v) where
  ins_of : (b : Bool) (q : Identifier) → map.get (with_element t (record { id = id; parent = node.parent; ch = node.ch; hidden = b })).ins q ≡ map.get (map.insert t.ins id node) q
  ins_of true q = refl
  ins_of false q = refl

  del_of : (b : Bool) (q : Identifier) → set.contains (with_element t (record { id = id; parent = node.parent; ch = node.ch; hidden = b })).del q ≡ ((same_id q id && b) || set.contains t.del q)
  del_of true q = set.contains-insert id_cmp-total t.del id q ∙ ap (λ b. b || set.contains t.del q) (and_true (same_id q id))
  del_of false q = ap (λ b. b || set.contains t.del q) (and_false (same_id q id))

  pub in_tree : (q : Identifier) → map.get u.ins q ≡ cond (same_id q id) (Some node) (map.get t.ins q)
  in_tree q = ap (λ (x : OperationSet). map.get x.ins q) p.tree ∙ ins_of (set.contains w.held.del id) q ∙ map.get-insert id_cmp-total t.ins id node q

  pub del_tree : (q : Identifier) → set.contains u.del q ≡ ((same_id q id && set.contains w.held.del id) || set.contains t.del q)
  del_tree q = ap (λ (x : OperationSet). set.contains x.del q) p.tree ∙ del_of (set.contains w.held.del id) q

  pub ins_held : v.held.ins ≡ w.held.ins
  ins_held = ap (λ (x : OperationSet). x.ins) (p.releases.held ∙ p.held)

  pub del_held : (q : Identifier) → set.contains v.held.del q ≡ (not (same_id q id) && set.contains w.held.del q)
  del_held q = ap (λ (x : OperationSet). set.contains x.del q) (p.releases.held ∙ p.held) ∙ set.contains-remove id_cmp-total w.held.del id q
