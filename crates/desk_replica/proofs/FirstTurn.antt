-- A new insertion is placed: the first turn of the loop, as if it had been held and ready.
use Rattle.std.proofs.Common.{◌≡◌, ◌≤◌, ℕ, Bool, true, false, not, cond, Option, None, Some, sym, ap, subst, ◌∙◌, refl, true≢false, is_some, arith}
use Rattle.std.specs.Prelude.{◌||◌, ◌&&◌}
use Rattle.std.specs.FinMap as map
use Rattle.bg_types.specs.Identifier.{Identifier, same_id}
use Rattle.bg_types.specs.OperationSet.{Node, OperationSet, AllWellFormed, Holds, MayJoin, union, with_operation, size}
use Rattle.bg_types.specs.declared.op.Place.{Place}
use Rattle.bg_types.specs.declared.op.OpView.{OpView}
use Rattle.bg_types.specs.declared.op.OpView.TheVariants.{Insert, Erase}
use Rattle.bg_types.proofs.Interface.{id_cmp-total, same_id-is, same_id-itself, same_sets, get-union, unwrap_first}
use Rattle.rga_tree.specs.Tree.{stands_in}
use Rattle.pending_ops.specs.Waiting.{Waiting, follows, is_ready}
use Rattle.desk_replica.specs.Placement.{IsParted, IsSettled, MayPlace, Places, PlacesIn}
use Rattle.desk_replica.specs.Reply.{IsAdmitted}
use Rattle.desk_replica.proofs.Sizes.{len_map-map}
use Rattle.desk_replica.proofs.PlacedOne.{Stepped, parted_now, same_now, in_tree, del_tree, ins_held, del_held}
use Rattle.desk_replica.proofs.Loop.{none_ready, formed_rest}

-- nothing is kept at the identifier of a new insertion
pub nothing_kept : (s : OperationSet) (id : Identifier) (parent : Place) (ch : ℕ) → MayJoin s (Insert id parent ch) → ¬ (Holds s (Insert id parent ch)) → map.get s.ins id ≡ None
nothing_kept s id parent ch may is_new = by (map.get s.ins id) refl
  where
    by : (o : Option Node) → map.get s.ins id ≡ o → map.get s.ins id ≡ None
    by None e = e
    by (Some n) e = absurd (is_new (e ∙ ap (λ (m : Node). Some m) (may n e)))

both_none : (a b : Option Node) → unwrap_first a b ≡ None → (a ≡ None) × (b ≡ None)
both_none None b e = (refl, e)
both_none (Some n) b e = absurd (let f : Some n ≡ None = e in cc)

pub not_held : (t h : OperationSet) (id : Identifier) → map.get (union t h).ins id ≡ None → (map.get t.ins id ≡ None) × (map.get h.ins id ≡ None)
not_held t h id e = both_none (map.get t.ins id) (map.get h.ins id) (sym (get-union t h id) ∙ e)

-- what the first turn keeps
pub record AfterFirst (t : OperationSet) (w : Waiting) (op : OpView) (u : OperationSet) (v : Waiting) : Type 0 where
  pub parted : IsParted u v.held (is_ready v)
  pub same : union u v.held ≡ with_operation (union t w.held) op
  pub insertions : v.held.ins ≡ w.held.ins
  pub room : v.room ≡ w.room
  pub formed : AllWellFormed v.held

-- S + op, where op is held
pub union-held : (t h : OperationSet) (id : Identifier) (node : Node) → map.get t.ins id ≡ None
    → union t (with_operation h (Insert id node.parent node.ch)) ≡ with_operation (union t h) (Insert id node.parent node.ch)
union-held t h id node none =
    same_sets (union t (with_operation h (Insert id node.parent node.ch))) (with_operation (union t h) (Insert id node.parent node.ch))
    (λ q. get-union t (with_operation h (Insert id node.parent node.ch)) q ∙ ap (unwrap_first (map.get t.ins q)) (map.get-insert id_cmp-total h.ins id node q)
    ∙ by q (same_id q id) refl ∙ ap (cond (same_id q id) (Some node)) (sym (get-union t h q)) ∙ sym (map.get-insert id_cmp-total (union t h).ins id node q))
    (λ q. refl)
  where
    by : (q : Identifier) (b : Bool) → same_id q id ≡ b → unwrap_first (map.get t.ins q) (cond b (Some node) (map.get h.ins q)) ≡ cond b (Some node) (unwrap_first (map.get t.ins q) (map.get h.ins q))
    by q true e = ap (λ o. unwrap_first o (Some node)) (ap (map.get t.ins) (same_id-is q id e) ∙ none)
    by q false e = refl

module _ (t : OperationSet) (w : Waiting) (id : Identifier) (node : Node) (d : IsSettled t w) (none : map.get (union t w.held).ins id ≡ None) (stands : stands_in t node.parent ≡ true) where
  abbrev more : OperationSet
  more = with_operation w.held (Insert id node.parent node.ch)

  abbrev own : Identifier → Bool
  own q = same_id q id

  got : (q : Identifier) → map.get more.ins q ≡ cond (same_id q id) (Some node) (map.get w.held.ins q)
  got q = map.get-insert id_cmp-total w.held.ins id node q

  absent : map.get t.ins id ≡ None
  absent = (not_held t w.held id none).0

  parted_more : IsParted t more own
  parted_more = record {
    apart = λ q e. got q ∙ by_apart q (same_id q id) refl e;
    stands = λ q n e r. by_stands n (cond_true (same_id q id) (Some node) (map.get w.held.ins q) r (sym (got q) ∙ e));
    waits = λ q n e r. d.parted.waits q n (cond_false (same_id q id) (Some node) (map.get w.held.ins q) r (sym (got q) ∙ e)) refl;
    early = d.parted.early;
  }
    where
      by_apart : (q : Identifier) (b : Bool) → same_id q id ≡ b → map.contains_key t.ins q ≡ true → cond b (Some node) (map.get w.held.ins q) ≡ None
      by_apart q true same e = absurd (true≢false (sym e ∙ ap is_some (ap (map.get t.ins) (same_id-is q id same) ∙ absent)))
      by_apart q false same e = d.parted.apart q e

      by_stands : (n : Node) → Some node ≡ Some n → stands_in t n.parent ≡ true
      by_stands n e = let same : node ≡ n = cc in subst (λ (m : Node). stands_in t m.parent ≡ true) same stands

      cond_true : (b : Bool) (x y : Option Node) {z : Option Node} → b ≡ true → cond b x y ≡ z → x ≡ z
      cond_true true x y r e = e
      cond_true false x y r e = absurd (true≢false (sym r))

      cond_false : (b : Bool) (x y : Option Node) {z : Option Node} → b ≡ false → cond b x y ≡ z → y ≡ z
      cond_false true x y r e = absurd (true≢false r)
      cond_false false x y r e = e

  module _ (u : OperationSet) (v : Waiting) (p : PlacesIn t w (id, node) u v) where
    not_rest : (q : Identifier) → is_ready p.rest q ≡ false
    not_rest q = none_ready p.rest (p.released ∙ d.none_released) q

    no_both : (b : Bool) → (not b && b) ≡ false
    no_both true = refl
    no_both false = refl

    held_by : (q : Identifier) (b : Bool) → same_id q id ≡ b → map.get w.held.ins q ≡ cond b None (cond b (Some node) (map.get w.held.ins q))
    held_by q true e = ap (map.get w.held.ins) (same_id-is q id e) ∙ (not_held t w.held id none).1
    held_by q false e = refl

    first_step : Stepped t more own id node u v.held (is_ready v)
    first_step = record {
      was = got id ∙ ap (λ b. cond b (Some node) (map.get w.held.ins id)) (same_id-itself id);
      placed_ins = in_tree t w id node u v p;
      placed_del = del_tree t w id node u v p;
      held_ins = λ q. ap (λ m. map.get m q) (ins_held t w id node u v p) ∙ held_by q (same_id q id) refl ∙ ap (cond (same_id q id) None) (sym (got q));
      held_del = del_held t w id node u v p;
      ready_next = λ q. p.releases.ready q ∙ (λ i. (not_rest q ∙ sym (no_both (same_id q id))) i || follows (sym p.releases.held i) id q);
    }

    pub after_first : AfterFirst t w (Insert id node.parent node.ch) u v
    after_first = record {
      parted = parted_now t more own id node u v.held (is_ready v) parted_more first_step;
      same = same_now t more own id node u v.held (is_ready v) parted_more first_step ∙ union-held t w.held id node absent;
      insertions = ins_held t w id node u v p;
      room = p.releases.room ∙ p.room;
      formed = formed_rest w.held v.held id (λ q. ap (λ m. map.get m q) (ins_held t w id node u v p) ∙ unheld q (same_id q id) refl) (del_held t w id node u v p) d.well_formed;
    }
      where
        unheld : (q : Identifier) (b : Bool) → same_id q id ≡ b → map.get w.held.ins q ≡ cond b None (map.get w.held.ins q)
        unheld q true e = ap (map.get w.held.ins) (same_id-is q id e) ∙ (not_held t w.held id none).1
        unheld q false e = refl

pub first_turn : (t : OperationSet) (w : Waiting) (op : OpView) (u : OperationSet) (v : Waiting) → IsSettled t w → IsAdmitted (union t w.held) op → MayPlace t op → Places t w op u v → AfterFirst t w op u v
first_turn t w (Insert id parent ch) u v d a may places = after_first t w id (record { parent = parent; ch = ch }) d (nothing_kept (union t w.held) id parent ch a.joins a.is_new) may.0 u v places
first_turn t w (Erase target) u v d a may places = absurd may

-- ---- how many insertions wait at most

some_second : (a b : Option Node) → is_some b ≡ true → is_some (unwrap_first a b) ≡ true
some_second None b h = h
some_second (Some n) b h = refl

pub held_within : (t h : OperationSet) → map.len h.ins ≤ size (union t h)
held_within t h =
    let le = len_map-map h.ins (union t h).ins (λ q e. ap is_some (get-union t h q) ∙ some_second (map.get t.ins q) (map.get h.ins q) e) in
    omega (arith, le)
