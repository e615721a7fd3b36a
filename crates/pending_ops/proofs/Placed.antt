-- What the turns of the loop place.
use Rattle.std.proofs.Common.{◌≡◌, Bool, true, false, cond, List, [], ◌∷◌, Option, None, Some, sym, ap, subst, ◌∙◌, refl, true≢false, is_some}
use Rattle.std.specs.Prelude.{◌||◌, All, map as each}
use Rattle.std.specs.Option.{option_map_or}
use Rattle.std.specs.List.{list_any}
use Rattle.std.specs.FinMap as map
use Rattle.std.proofs.lemmas.List.Elements.{All-nil, All-cons}
use Rattle.bg_types.specs.Identifier.{Identifier, same_id}
use Rattle.bg_types.specs.OperationSet.{Holds, Node, OperationSet}
use Rattle.bg_types.specs.declared.op.OpView.{OpView}
use Rattle.bg_types.specs.declared.op.OpView.TheVariants.{Insert, Erase}
use Rattle.bg_types.proofs.Interface.{same_id-is}
use Rattle.pending_ops.specs.Waiting.{NoneReady, Waiting, follows, is_after, is_ready}
use Rattle.pending_ops.specs.Below.{IsBelow}
use Rattle.pending_ops.specs.Chains.{AreApart}
use Rattle.pending_ops.specs.Releasing.{FollowPlaced, PlacesEach, is_placed, subject}
use Rattle.pending_ops.proofs.Tables.{one_of, same_id-equivalence}
use Rattle.pending_ops.proofs.OneStep.{after_cut, back, decided, follows_back, no_erasure, not_and, ready_back, some_back, step_of}
use Rattle.std.proofs.lemmas.Bool.{false_from_ne_true, or_left, or_right}

abbrev pub ids : List OpView → List Identifier
ids ops = each subject ops

-- the insertions that are left
pub rest_of : (old : Waiting) (ops : List OpView) (new : Waiting) → PlacesEach old ops new → (q : Identifier) → map.get new.held.ins q ≡ cond (is_placed (ids ops) q) None (map.get old.held.ins q)
rest_of old [] new h q = ap (λ (w : Waiting). map.get w.held.ins q) h
rest_of old (Insert id parent ch ∷ ops) new h q =
    let s = step_of old h.0 id parent ch h.1.0 in
    rest_of h.0 ops new h.1.1 q ∙ ap (cond (is_placed (ids ops) q) None) (s.ins q) ∙ both (same_id q id) (is_placed (ids ops) q) (map.get old.held.ins q)
  where
    both : (a b : Bool) (o : Option Node) → cond b None (cond a None o) ≡ cond (a || b) None o
    both true true o = refl
    both true false o = refl
    both false b o = refl
rest_of old (Erase target ∷ ops) new h q = absurd (no_erasure old h.0 target h.1.0)

-- each was held
pub were_held : (old : Waiting) (ops : List OpView) (new : Waiting) → PlacesEach old ops new → (s : OperationSet)
    → ((q : Identifier) (n : Node) → map.get old.held.ins q ≡ Some n → map.get s.ins q ≡ Some n) → All (Holds s) ops
were_held old [] new h s was = All-nil (Holds s)
were_held old (Insert id parent ch ∷ ops) new h s was =
    let t = step_of old h.0 id parent ch h.1.0 in
    All-cons (Holds s) (Insert id parent ch) ops (was id (record { parent = parent; ch = ch }) t.held)
    (were_held h.0 ops new h.1.1 s (λ q n e. was q n (back (same_id q id) (map.get old.held.ins q) n (sym (t.ins q) ∙ e)).1))
were_held old (Erase target ∷ ops) new h s was = absurd (no_erasure old h.0 target h.1.0)

pub placed_held : (old : Waiting) (ops : List OpView) (new : Waiting) → PlacesEach old ops new → (q : Identifier) → is_placed (ids ops) q ≡ true → is_some (map.get old.held.ins q) ≡ true
placed_held old [] new h q m = absurd (true≢false (sym m))
placed_held old (Insert id parent ch ∷ ops) new h q m =
    let s = step_of old h.0 id parent ch h.1.0 in
    one_of (same_id q id) (is_placed (ids ops) q) _ m
    (λ same. ap (λ x. is_some (map.get old.held.ins x)) (same_id-is q id same) ∙ ap is_some s.held)
    (λ later. (some_back (same_id q id) (map.get old.held.ins q) (sym (ap is_some (s.ins q)) ∙ placed_held h.0 ops new h.1.1 q later)).1)
placed_held old (Erase target ∷ ops) new h q m = absurd (no_erasure old h.0 target h.1.0)

-- each occurs once
pub apart : (old : Waiting) (ops : List OpView) (new : Waiting) → PlacesEach old ops new → AreApart (ids ops)
apart old [] new h = tt
apart old (Insert id parent ch ∷ ops) new h =
    let s = step_of old h.0 id parent ch h.1.0 in (
      false_from_ne_true (is_placed (ids ops) id) (λ m.
          true≢false (sym (same_id-equivalence.refl id) ∙ (some_back (same_id id id) (map.get old.held.ins id) (sym (ap is_some (s.ins id)) ∙ placed_held h.0 ops new h.1.1 id m)).0)),
      apart h.0 ops new h.1.1,
    )
apart old (Erase target ∷ ops) new h = absurd (no_erasure old h.0 target h.1.0)

-- where none is ready in the end, what is ready is placed
pub ready_placed : (old : Waiting) (ops : List OpView) (new : Waiting) → PlacesEach old ops new → NoneReady new → (q : Identifier) → is_ready old q ≡ true → is_placed (ids ops) q ≡ true
ready_placed old [] new h none q r = absurd (true≢false (sym r ∙ sym (ap (λ w. is_ready w q) h) ∙ none q))
ready_placed old (Insert id parent ch ∷ ops) new h none q r =
    let s = step_of old h.0 id parent ch h.1.0 in
    decided (same_id q id) _ (or_left (same_id q id) (is_placed (ids ops) q))
    (λ other. or_right (same_id q id) (is_placed (ids ops) q)
    (ready_placed h.0 ops new h.1.1 none q (s.ready_then q ∙ not_and (same_id q id) (is_ready old q || follows old.held id q) other (or_left (is_ready old q) (follows old.held id q) r))))
ready_placed old (Erase target ∷ ops) new h none q r = absurd (no_erasure old h.0 target h.1.0)

-- and what stands right after a placed one
pub followers_placed : (old : Waiting) (ops : List OpView) (new : Waiting) → PlacesEach old ops new → NoneReady new → (p q : Identifier)
    → is_placed (ids ops) p ≡ true → follows old.held p q ≡ true → is_placed (ids ops) q ≡ true
followers_placed old [] new h none p q m f = absurd (true≢false (sym m))
followers_placed old (Insert id parent ch ∷ ops) new h none p q m f =
    let s = step_of old h.0 id parent ch h.1.0 in
    decided (same_id q id) _ (or_left (same_id q id) (is_placed (ids ops) q))
    (λ other. or_right (same_id q id) (is_placed (ids ops) q)
    (one_of (same_id p id) (is_placed (ids ops) p) _ m
    (λ own. ready_placed h.0 ops new h.1.1 none q
    (s.ready_then q ∙ not_and (same_id q id) (is_ready old q || follows old.held id q) other
    (or_right (is_ready old q) (follows old.held id q) (subst (λ x. follows old.held x q ≡ true) (same_id-is p id own) f))))
    (λ later. followers_placed h.0 ops new h.1.1 none p q later
    (ap (λ o. option_map_or (λ (n : Node). is_after n.parent p) o false) (s.ins q) ∙ after_cut (same_id q id) (map.get old.held.ins q) p ∙ not_and (same_id q id) (follows old.held p q) other f))))
followers_placed old (Erase target ∷ ops) new h none p q m f = absurd (no_erasure old h.0 target h.1.0)

-- each stands below what the ready ones stand below
pub placed_below : (old : Waiting) (ops : List OpView) (new : Waiting) → PlacesEach old ops new → (s : OperationSet) (id : Identifier)
    → ((p q : Identifier) → follows old.held p q ≡ true → follows s p q ≡ true) → ((q : Identifier) → is_ready old q ≡ true → IsBelow s id q)
    → (q : Identifier) → is_placed (ids ops) q ≡ true → IsBelow s id q
placed_below old [] new h s id was below q m = absurd (true≢false (sym m))
placed_below old (Insert x parent ch ∷ ops) new h s id was below q m =
    let node : Node = record { parent = parent; ch = ch } in
    let t = step_of old h.0 x parent ch h.1.0 in
    let own = below x t.ready in
    one_of (same_id q x) (is_placed (ids ops) q) _ m
    (λ same. subst (λ y. IsBelow s id y) (sym (same_id-is q x same)) own)
    (λ later. placed_below h.0 ops new h.1.1 s id (λ p r f. was p r (follows_back old h.0 x node t p r f))
    (λ r ready. ready_back old h.0 x node t r (IsBelow s id r) ready (below r) (λ f. (x ∷ own.0, (was x r f, own.1)))) q later)
placed_below old (Erase target ∷ ops) new h s id was below q m = absurd (no_erasure old h.0 target h.1.0)

-- and so does what is ready then
pub ready_below : (old : Waiting) (ops : List OpView) (new : Waiting) → PlacesEach old ops new → (s : OperationSet) (id : Identifier)
    → ((p q : Identifier) → follows old.held p q ≡ true → follows s p q ≡ true) → ((q : Identifier) → is_ready old q ≡ true → IsBelow s id q)
    → (q : Identifier) → is_ready new q ≡ true → IsBelow s id q
ready_below old [] new h s id was below q r = below q (sym (ap (λ w. is_ready w q) h) ∙ r)
ready_below old (Insert x parent ch ∷ ops) new h s id was below q r =
    let node : Node = record { parent = parent; ch = ch } in
    let t = step_of old h.0 x parent ch h.1.0 in
    let own = below x t.ready in
    ready_below h.0 ops new h.1.1 s id (λ p y f. was p y (follows_back old h.0 x node t p y f))
    (λ y ready. ready_back old h.0 x node t y (IsBelow s id y) ready (below y) (λ f. (x ∷ own.0, (was x y f, own.1)))) q r
ready_below old (Erase target ∷ ops) new h s id was below q r = absurd (no_erasure old h.0 target h.1.0)

-- each comes after its parent
pub after_parents : (old : Waiting) (ops : List OpView) (new : Waiting) → PlacesEach old ops new → (placed : List Identifier)
    → ((q : Identifier) (n : Node) → map.get old.held.ins q ≡ Some n → is_ready old q ≡ true → list_any (is_after n.parent) placed ≡ true) → FollowPlaced placed ops
after_parents old [] new h placed ready = tt
after_parents old (Insert id parent ch ∷ ops) new h placed ready =
    let node : Node = record { parent = parent; ch = ch } in
    let s = step_of old h.0 id parent ch h.1.0 in (
      ready id node s.held s.ready,
      after_parents h.0 ops new h.1.1 (id ∷ placed) (λ q n e r.
          let was = (back (same_id q id) (map.get old.held.ins q) n (sym (s.ins q) ∙ e)).1 in
          ready_back old h.0 id node s q (list_any (is_after n.parent) (id ∷ placed) ≡ true) r
          (λ before. or_right (is_after n.parent id) (list_any (is_after n.parent) placed) (ready q n was before))
          (λ f. or_left (is_after n.parent id) (list_any (is_after n.parent) placed) (sym (ap (λ o. option_map_or (λ (m : Node). is_after m.parent id) o false) was) ∙ f))),
    )
after_parents old (Erase target ∷ ops) new h placed ready = absurd (no_erasure old h.0 target h.1.0)
