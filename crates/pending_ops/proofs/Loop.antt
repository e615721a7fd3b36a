-- What the loop of taking, placing and releasing has placed once nothing is ready.
use Rattle.std.proofs.Common.{◌≡◌, ◌+◌, ◌++◌, ℕ, Bool, true, false, not, cond, List, [], ◌∷◌, length, Option, None, Some, sym, ap, subst, ◌∙◌, refl, suc, true≢false, arith}
use Rattle.std.specs.Prelude.{◌||◌, ◌↔◌}
use Rattle.std.specs.Option.{option_map_or}
use Rattle.std.specs.FinMap as map
use Rattle.std.specs.FinSet as set
use Rattle.bg_types.specs.Identifier.{Identifier, id_cmp, same_id}
use Rattle.bg_types.specs.OperationSet.{Node, OperationSet}
use Rattle.bg_types.specs.declared.op.OpView.{OpView}
use Rattle.bg_types.proofs.Interface.{id_cmp-total, id_cmp-exact, same_id-is, same_tests}
use Rattle.pending_ops.specs.Waiting.{NoneReady, Releases, TakesOut, Waiting, follows, is_after, is_ready}
use Rattle.pending_ops.specs.Below.{CountsBelow, IsBelow, IsChain}
use Rattle.pending_ops.specs.Chains.{AreApart}
use Rattle.bg_types.specs.declared.op.OpView.TheVariants.{Insert, Erase}
use Rattle.pending_ops.specs.Releasing.{PlacesBelow, PlacesEach, PlacesOne, is_placed}
use Rattle.pending_ops.proofs.Tables.{AreApart-distinct, one_of}
use Rattle.pending_ops.proofs.Views.{contains-from_list}
use Rattle.pending_ops.proofs.Listing.{len-from_list}
use Rattle.pending_ops.proofs.OneStep.{after_cut}
use Rattle.pending_ops.proofs.Placed.{after_parents, apart, followers_placed, ids, placed_below, ready_below, ready_placed, rest_of, were_held}
use Rattle.std.proofs.lemmas.Bool.{and_parts, false_from_ne_true, or_left}

-- one more at the end of the loop
pub PlacesEach-push : (old : Waiting) (ops : List OpView) (new last : Waiting) (op : OpView) → PlacesEach old ops new → PlacesOne new op last → PlacesEach old (ops ++ op ∷ []) last
PlacesEach-push old [] new last op h one = (last, (subst (λ w. PlacesOne w op last) h one, refl))
PlacesEach-push old (x ∷ ops) new last op h one = (h.0, (h.1.0, PlacesEach-push h.0 ops new last op h.1.1 one))

length-ids : (ops : List OpView) → length (ids ops) ≡ length ops
length-ids [] = refl
length-ids (op ∷ ops) = ap (λ n. suc n) (length-ids ops)

-- two counts of the same are one
counted_once : (s : OperationSet) (id : Identifier) (xs : List Identifier) → AreApart xs → ((q : Identifier) → (is_placed xs q ≡ true) ↔ IsBelow s id q)
    → (n : ℕ) → CountsBelow s id n → n ≡ length xs
counted_once s id xs once exact n counts =
    let same : counts.0 ≡ set.from_list {R = id_cmp} xs = set.same_set id_cmp-total id_cmp-exact _ _ (λ q.
    same_tests (set.contains counts.0 q) (is_placed xs q) (λ h. (exact q).1 ((counts.1.0 q).0 h)) (λ h. (counts.1.0 q).1 ((exact q).0 h)) ∙ sym (contains-from_list xs q)) in
    sym counts.1.1 ∙ ap set.len same ∙ len-from_list xs once

-- while one is ready, it and those that were placed stand below the identifier, each another
pub one_more_below : (old start now next : Waiting) (id : Identifier) (ops : List OpView) (op : OpView) → NoneReady old → Releases old id start → PlacesEach start ops now → TakesOut now op next
    → (below : set.FinSet id_cmp) × (((q : Identifier) → set.contains below q ≡ true → IsBelow old.held id q) × (set.len below ≡ length ops + 1))
one_more_below old start now next id ops (Insert x parent ch) none r h takes =
    let was : (p q : Identifier) → follows start.held p q ≡ true → follows old.held p q ≡ true = λ p q f. sym (ap (λ s. follows s p q) r.held) ∙ f in
    let first : (q : Identifier) → is_ready start q ≡ true → IsBelow old.held id q = λ q ready. ([], sym (r.ready q ∙ ap (λ b. b || follows old.held id q) (none q)) ∙ ready) in
    let new : is_placed (ids ops) x ≡ false = false_from_ne_true (is_placed (ids ops) x) (λ m. gone _ _ (is_placed (ids ops) x) m (sym (rest_of start ops now h x) ∙ takes.was_held)) in (
      set.from_list (x ∷ ids ops),
      (
        λ q m. one_of (same_id q x) (is_placed (ids ops) q) _ (sym (contains-from_list (x ∷ ids ops) q) ∙ m)
            (λ same. subst (IsBelow old.held id) (sym (same_id-is q x same)) (ready_below start ops now h old.held id was first x takes.was_ready))
            (λ placed. placed_below start ops now h old.held id was first q placed),
        len-from_list (x ∷ ids ops) (new, apart start ops now h) ∙ (let l = length-ids ops in omega (arith, l)),
      ),
    )
  where
    gone : (o : Option Node) (n : Node) (b : Bool) → b ≡ true → cond b None o ≡ Some n → ⊥
    gone o n true same e = cc
    gone o n false same e = true≢false (sym same)
one_more_below old start now next id ops (Erase target) none r h takes = absurd takes

module _ (old start new : Waiting) (id : Identifier) (ops : List OpView) (none : NoneReady old) (r : Releases old id start) (h : PlacesEach start ops new) (end : NoneReady new) where
  same_ins : (q : Identifier) → map.get start.held.ins q ≡ map.get old.held.ins q
  same_ins q = ap (λ (s : OperationSet). map.get s.ins q) r.held

  same_follows : (p q : Identifier) → follows start.held p q ≡ follows old.held p q
  same_follows p q = ap (λ s. follows s p q) r.held

  first_ready : (q : Identifier) → is_ready start q ≡ follows old.held id q
  first_ready q = r.ready q ∙ ap (λ b. b || follows old.held id q) (none q)

  all_below : (q : Identifier) (ps : List Identifier) → IsChain old.held q ps id → is_placed (ids ops) q ≡ true
  all_below q [] f = ready_placed start ops new h end q (first_ready q ∙ f)
  all_below q (p ∷ ps) f = followers_placed start ops new h end p q (all_below p ps f.1) (same_follows p q ∙ f.0)

  exact : (q : Identifier) → (is_placed (ids ops) q ≡ true) ↔ IsBelow old.held id q
  exact q =
      (placed_below start ops new h old.held id (λ p x f. sym (same_follows p x) ∙ f) (λ x ready. ([], sym (first_ready x) ∙ ready)) q, λ b. all_below q b.0 b.1)

  rest : (q : Identifier) → map.get new.held.ins q ≡ cond (is_placed (ids ops) q) None (map.get old.held.ins q)
  rest q = rest_of start ops new h q ∙ ap (cond (is_placed (ids ops) q) None) (same_ins q)

  follows_new : (p q : Identifier) → follows new.held p q ≡ true → (is_placed (ids ops) q ≡ false) × (follows old.held p q ≡ true)
  follows_new p q f =
      let b = and_parts (not (is_placed (ids ops) q)) (follows old.held p q)
      (sym (ap (λ o. option_map_or (λ (n : Node). is_after n.parent p) o false) (rest q) ∙ after_cut (is_placed (ids ops) q) (map.get old.held.ins q) p) ∙ f) in
      (false_from_ne_true (is_placed (ids ops) q) (λ m. true≢false (sym b.0 ∙ ap not m)), b.1)

  waits : (p q : Identifier) → follows new.held p q ≡ true → is_placed (id ∷ ids ops) p ≡ false
  waits p q f =
      let was = follows_new p q f in
      false_from_ne_true (is_placed (id ∷ ids ops) p) (λ m. one_of (same_id p id) (is_placed (ids ops) p) ⊥ m
      (λ own. true≢false (sym (all_below q [] (subst (λ x. follows old.held x q ≡ true) (same_id-is p id own) was.1)) ∙ was.0))
      (λ placed. true≢false (sym (followers_placed start ops new h end p q placed (same_follows p q ∙ was.1)) ∙ was.0)))

  pub places_below : PlacesBelow old id ops new
  places_below = record {
    were_held = were_held start ops new h old.held (λ q n e. sym (same_ins q) ∙ e);
    exact = exact;
    once = AreApart-distinct (ids ops) (apart start ops new h);
    counted = λ n counts. counted_once old.held id (ids ops) (apart start ops new h) exact n counts ∙ length-ids ops;
    after_parent = after_parents start ops new h (id ∷ []) (λ q n e ready.
        or_left (is_after n.parent id) false (sym (ap (λ o. option_map_or (λ (m : Node). is_after m.parent id) o false) (sym (same_ins q) ∙ e)) ∙ sym (first_ready q) ∙ ready));
    rest = rest;
    waits = waits;
  }
