-- A character that is typed stays between its neighbours.
use Rattle.std.proofs.Common.{◌≡◌, ◌≤◌, ◌+◌, ℕ, zero, suc, Bool, true, false, cond, not, List, [], ◌∷◌, ◌++◌, length, Some, refl, sym, ap, subst, ◌∙◌, arith, append_assoc}
use Rattle.std.specs.Prelude.{slice_get, filter, insert, map as each}
use Rattle.std.specs.Option.{option_map_or}
use Rattle.std.proofs.lemmas.List.{map-append, get_or-set_same, length-map}
use Rattle.bg_types.specs.Identifier.{Identifier}
use Rattle.bg_types.specs.WellFormed.{IsWellFormed}
use Rattle.bg_types.specs.OperationSet.{Node, OperationSet, AllWellFormed, no_operations, with_operation, next}
use Rattle.bg_types.specs.declared.op.Place.TheVariants.{Root, After}
use Rattle.bg_types.specs.declared.op.OpView.TheVariants.{Insert}
use Rattle.rga_tree.specs.Walk.{walk, walked_ids}
use Rattle.rga_tree.specs.Attached.{IsAttached}
use Rattle.rga_tree.specs.TextOf.{text, visible, visible_ids, is_erased}
use Rattle.rga_tree.specs.Order.{StandsBefore, Precedes, StandsBetween}
use Rattle.rga_tree.proofs.Interface.{Entry, StandsBefore-unfiltered, Precedes-attached, StandsBetween-typed, walk-typed_behind, walk-typed_first, filter_ids}
use Rattle.desk_replica.specs.declared.world.step.Step.{Step}
use Rattle.desk_replica.specs.declared.world.step.Step.TheVariants.{Typed}
use Rattle.desk_replica.specs.declared.world.step.Reply.{Reply}
use Rattle.desk_replica.specs.declared.world.step.Reply.TheVariants.{Done}
use Rattle.desk_replica.specs.DeskSets.{set_at}
use Rattle.desk_replica.specs.Typing.{parent_at}
use Rattle.desk_replica.specs.WorldStep.{WorldState, WorldStep, next_identifier, site_at}
use Rattle.desk_replica.specs.WorldRun.{IsLater, IsWorld, empty_world}
use Rattle.desk_replica.proofs.Lists.{slice_get-from, slice_get-within}
use Rattle.desk_replica.proofs.Typed.{each-insert}
use Rattle.desk_replica.proofs.Typing.{new_del}
use Rattle.desk_replica.proofs.WorldLaws.{well_formed_there, order_worlds}
use Rattle.desk_replica.proofs.WorldRuns.{IsSound-world}
use Rattle.desk_replica.proofs.WorldSteps.{run_on}
use Rattle.std.proofs.lemmas.Option.{slice_get_within}

-- ---- what stands at a place of a list

-- one place and the next
neighbours : (ids : List Identifier) (k : ℕ) (a b : Identifier) → slice_get ids k ≡ Some a → slice_get ids (suc k) ≡ Some b → StandsBefore ids a b
neighbours [] k a b at_a at_b = absurd (let w = slice_get_within [] k a at_a in omega arith)
neighbours (x ∷ []) zero a b at_a at_b = absurd (let w = slice_get_within (x ∷ []) 1 b at_b in omega arith)
neighbours (x ∷ y ∷ ids) zero a b at_a at_b =
    let here : x ≡ a = cc in
    let next : y ≡ b = cc in
    record { front = []; between = []; back = ids; in_order = (λ i. here i ∷ next i ∷ ids) }
neighbours (x ∷ ids) (suc k) a b at_a at_b =
    let rest = neighbours ids k a b at_a at_b in
    record { front = x ∷ rest.front; between = rest.between; back = rest.back; in_order = ap (λ l. x ∷ l) rest.in_order }

-- what passes stands in the whole list, after as many that pass as stand before it
pub record IsSplit (p : Entry → Bool) (es : List Entry) (k : ℕ) (x : Entry) : Type 0 where
  pub front : List Entry
  pub back : List Entry
  pub in_order : es ≡ front ++ x ∷ back
  pub count : length (filter p front) ≡ k
  pub passes : p x ≡ true

split_seen : (p : Entry → Bool) (y x : Entry) (es vs : List Entry) (k : ℕ) → p y ≡ true → ((j : ℕ) → slice_get vs j ≡ Some x → IsSplit p es j x) → slice_get (y ∷ vs) k ≡ Some x → IsSplit p (y ∷ es) k x
split_seen p y x es vs zero kept rest h =
    let here : y ≡ x = cc in
    record { front = []; back = es; in_order = ap (λ z. z ∷ es) here; count = refl; passes = subst (λ z. p z ≡ true) here kept }
split_seen p y x es vs (suc j) kept rest h =
    let r = rest j h in
    record {
      front = y ∷ r.front;
      back = r.back;
      in_order = ap (λ l. y ∷ l) r.in_order;
      count = ap (λ b. length (cond b (y ∷ filter p r.front) (filter p r.front))) kept ∙ ap (λ n. suc n) r.count;
      passes = r.passes;
    }

split_unseen : (p : Entry → Bool) (y x : Entry) (es : List Entry) (k : ℕ) → p y ≡ false → IsSplit p es k x → IsSplit p (y ∷ es) k x
split_unseen p y x es k left r = record {
  front = y ∷ r.front;
  back = r.back;
  in_order = ap (λ l. y ∷ l) r.in_order;
  count = ap (λ b. length (cond b (y ∷ filter p r.front) (filter p r.front))) left ∙ r.count;
  passes = r.passes;
}

split_one : (p : Entry → Bool) (b : Bool) (y x : Entry) (es vs : List Entry) (k : ℕ) → p y ≡ b → ((j : ℕ) → slice_get vs j ≡ Some x → IsSplit p es j x) → slice_get (cond b (y ∷ vs) vs) k ≡ Some x → IsSplit p (y ∷ es) k x
split_one p true y x es vs k is rest h = split_seen p y x es vs k is rest h
split_one p false y x es vs k is rest h = split_unseen p y x es k is (rest k h)

split_at : (p : Entry → Bool) (es : List Entry) (k : ℕ) (x : Entry) → slice_get (filter p es) k ≡ Some x → IsSplit p es k x
split_at p [] k x h = absurd (let w = slice_get_within [] k x h in omega arith)
split_at p (y ∷ es) k x h = split_one p (p y) y x es (filter p es) k refl (λ j. split_at p es j x) h

-- one more that passes, directly after one that does
filter_after : (p : Entry → Bool) (front back : List Entry) (x n : Entry) → p x ≡ true → p n ≡ true
    → filter p (front ++ x ∷ n ∷ back) ≡ insert (filter p (front ++ x ∷ back)) (suc (length (filter p front))) n
filter_after p [] back x n kept new =
    ap (λ b. cond b (x ∷ filter p (n ∷ back)) (filter p (n ∷ back))) kept ∙ ap (λ b. x ∷ cond b (n ∷ filter p back) (filter p back)) new
    ∙ sym (ap (λ b. insert (cond b (x ∷ filter p back) (filter p back)) 1 n) kept)
filter_after p (y ∷ front) back x n kept new =
    let rest = filter_after p front back x n kept new in
    elim (p y) as (λ b. cond b (y ∷ filter p (front ++ x ∷ n ∷ back)) (filter p (front ++ x ∷ n ∷ back))
    ≡ insert (cond b (y ∷ filter p (front ++ x ∷ back)) (filter p (front ++ x ∷ back))) (suc (length (cond b (y ∷ filter p front) (filter p front)))) n) [
      | true ↦ ap (λ l. y ∷ l) rest
      | false ↦ rest
    ]

visible_before : (s : OperationSet) (k : ℕ) (a b : Identifier) → slice_get (visible_ids s) k ≡ Some a → slice_get (visible_ids s) (suc k) ≡ Some b → Precedes s a b
visible_before s k a b at_a at_b =
    let p : Identifier → Bool = λ q. not (is_erased s q) in
    StandsBefore-unfiltered p (walked_ids s) a b (subst (λ ids. StandsBefore ids a b) (filter_ids p (walk s Root)) (neighbours (visible_ids s) k a b at_a at_b))

-- ---- the set of a desk with what was typed

module _ (s : OperationSet) (well : AllWellFormed s) (site ch : ℕ) where
  abbrev id : Identifier
  id = record { counter = next s; site = site }

  abbrev with_typed : ℕ → OperationSet
  with_typed k = with_operation s (Insert id (parent_at (visible_ids s) k) ch)

  parent_behind : (k : ℕ) (a : Identifier) → slice_get (visible_ids s) k ≡ Some a → parent_at (visible_ids s) (suc k) ≡ After a
  parent_behind k a at = ap (λ o. option_map_or After o Root) at

  typed_between : (k : ℕ) (a b : Identifier) → IsWellFormed (Insert id (parent_at (visible_ids s) (suc k)) ch) → slice_get (visible_ids s) k ≡ Some a → slice_get (visible_ids s) (suc k) ≡ Some b
      → StandsBetween (with_typed (suc k)) a id b
  typed_between k a b formed at_a at_b =
      StandsBetween-typed s well id (record { parent = parent_at (visible_ids s) (suc k); ch = ch }) formed (omega arith) a b (parent_behind k a at_a) (visible_before s k a b at_a at_b)

  typed_last : (k : ℕ) (a : Identifier) → IsWellFormed (Insert id (parent_at (visible_ids s) (suc k)) ch) → slice_get (visible_ids s) k ≡ Some a → Precedes (with_typed (suc k)) a id
  typed_last k a formed at =
      let node : Node = record { parent = parent_at (visible_ids s) (suc k); ch = ch } in
      let f = slice_get-from (λ (x : Entry). x.0) (visible s) k a at in
      let parts = split_at (λ x. not (is_erased s x.0)) (walk s Root) k f.0 f.1.0 in
      let new = walk-typed_behind s well id node formed (omega arith) parts.front parts.back f.0 (parent_behind k a at ∙ ap After (sym f.1.1)) parts.in_order in
      record {
        front = each (λ (x : Entry). x.0) parts.front;
        between = [];
        back = each (λ (x : Entry). x.0) parts.back;
        in_order = ap (each (λ (x : Entry). x.0)) new ∙ map-append (λ (x : Entry). x.0) parts.front (f.0 ∷ (id, node) ∷ parts.back)
            ∙ ap (λ q. each (λ (x : Entry). x.0) parts.front ++ q ∷ id ∷ each (λ (x : Entry). x.0) parts.back) f.1.1
            ∙ sym (append_assoc (each (λ (x : Entry). x.0) parts.front) (a ∷ []) (id ∷ each (λ (x : Entry). x.0) parts.back));
      }

  typed_first : (b : Identifier) → IsWellFormed (Insert id Root ch) → slice_get (visible_ids s) 0 ≡ Some b → Precedes (with_typed 0) id b
  typed_first b formed at =
      let node : Node = record { parent = Root; ch = ch } in
      let f = slice_get-from (λ (x : Entry). x.0) (visible s) 0 b at in
      let parts = split_at (λ x. not (is_erased s x.0)) (walk s Root) 0 f.0 f.1.0 in
      let new = walk-typed_first s well id node formed (omega arith) refl in
      record {
        front = [];
        between = each (λ (x : Entry). x.0) parts.front;
        back = each (λ (x : Entry). x.0) parts.back;
        in_order = ap (each (λ (x : Entry). x.0)) new ∙ ap (λ l. id ∷ each (λ (x : Entry). x.0) l) parts.in_order
            ∙ ap (λ l. id ∷ l) (map-append (λ (x : Entry). x.0) parts.front (f.0 ∷ parts.back) ∙ ap (λ q. each (λ (x : Entry). x.0) parts.front ++ q ∷ each (λ (x : Entry). x.0) parts.back) f.1.1);
      }

  new_seen : not (is_erased s id) ≡ true
  new_seen = ap not (new_del s id refl)

  visible_behind : (k : ℕ) (a : Identifier) → IsWellFormed (Insert id (parent_at (visible_ids s) (suc k)) ch) → slice_get (visible_ids s) k ≡ Some a
      → visible (with_typed (suc k)) ≡ insert (visible s) (suc k) (id, record { parent = parent_at (visible_ids s) (suc k); ch = ch })
  visible_behind k a formed at =
      let p : Entry → Bool = λ x. not (is_erased s x.0) in
      let node : Node = record { parent = parent_at (visible_ids s) (suc k); ch = ch } in
      let f = slice_get-from (λ (x : Entry). x.0) (visible s) k a at in
      let parts = split_at p (walk s Root) k f.0 f.1.0 in
      let new = walk-typed_behind s well id node formed (omega arith) parts.front parts.back f.0 (parent_behind k a at ∙ ap After (sym f.1.1)) parts.in_order in
      ap (λ w. filter p w) new
      ∙ filter_after p parts.front parts.back f.0 (id, node) parts.passes new_seen
      ∙ (λ i. insert (filter p (sym parts.in_order i)) (suc (parts.count i)) (id, node))

  visible_first : IsWellFormed (Insert id Root ch) → visible (with_typed 0) ≡ insert (visible s) 0 (id, record { parent = Root; ch = ch })
  visible_first formed =
      let p : Entry → Bool = λ x. not (is_erased s x.0) in
      let node : Node = record { parent = Root; ch = ch } in
      ap (λ w. filter p w) (walk-typed_first s well id node formed (omega arith) refl)
      ∙ ap (λ b. cond b ((id, node) ∷ filter p (walk s Root)) (filter p (walk s Root))) new_seen

  pub visible_typed : (k : ℕ) → k ≤ length (visible s) → IsWellFormed (Insert id (parent_at (visible_ids s) k) ch)
      → visible (with_typed k) ≡ insert (visible s) k (id, record { parent = parent_at (visible_ids s) k; ch = ch })
  visible_typed zero le formed = visible_first formed
  visible_typed (suc k) le formed =
      let long = length-map (visible s) (λ (x : Entry). x.0) in
      let a = slice_get-within (visible_ids s) k (omega (arith, long, le)) in
      visible_behind k a.0 formed a.1

  pub text_typed : (k : ℕ) → k ≤ length (visible s) → IsWellFormed (Insert id (parent_at (visible_ids s) k) ch) → text (with_typed k) ≡ insert (text s) k ch
  text_typed k le formed =
      ap (each (λ (x : Entry). x.1.ch)) (visible_typed k le formed)
      ∙ each-insert (λ (x : Entry). x.1.ch) (visible s) k (id, record { parent = parent_at (visible_ids s) k; ch = ch })

-- ---- and of each desk later

-- what was typed at a desk is in its set after the step
typed_set : (sites : List ℕ) (w v : WorldState) (d place ch : ℕ) → WorldStep sites w (Typed d place ch) Done v
    → set_at v.sets d ≡ with_operation (set_at w.sets d) (Insert (next_identifier sites w d) (parent_at (visible_ids (set_at w.sets d)) place) ch)
typed_set sites w v d place ch h =
    ap (λ (x : WorldState). set_at x.sets d) h.1.2
    ∙ get_or-set_same w.sets d (with_operation (set_at w.sets d) (Insert (next_identifier sites w d) (parent_at (visible_ids (set_at w.sets d)) place) ch)) no_operations h.0.0

after_step : (sites : List ℕ) (w v : WorldState) (step : Step) (reply : Reply) → IsWorld sites w → WorldStep sites w step reply v → IsWorld sites v
after_step sites w v step reply world h = record {
  are_sites = world.are_sites;
  later = record {
    steps = world.later.steps ++ step ∷ [];
    replies = world.later.replies ++ reply ∷ [];
    run = run_on sites (empty_world (length sites)) w world.later.steps world.later.replies world.later.run step reply v h;
  };
}

module _ (sites : List ℕ) (w v u : WorldState) (d place ch : ℕ) (world : IsWorld sites w) (step : WorldStep sites w (Typed d place ch) Done v) (later : IsLater sites v u) where
  abbrev own : OperationSet
  own = set_at w.sets d

  abbrev new : Identifier
  new = next_identifier sites w d

  after : IsWorld sites v
  after = after_step sites w v (Typed d place ch) Done world step

  pub order_stays : (a b : Identifier) → Precedes (with_operation own (Insert new (parent_at (visible_ids own) place) ch)) a b
      → (e : ℕ) → IsAttached (set_at u.sets e).ins a → IsAttached (set_at u.sets e).ins b → Precedes (set_at u.sets e) a b
  order_stays a b h e at_a at_b =
      let here : Precedes (set_at v.sets d) a b = subst (λ (s : OperationSet). Precedes s a b) (sym (typed_set sites w v d place ch step)) h in
      let both = Precedes-attached (set_at v.sets d) (well_formed_there sites v (IsSound-world sites v after) d) a b here in
      (order_worlds sites v u after later d e a b both.0 both.1 at_a at_b).0 here

well_there : (sites : List ℕ) (w : WorldState) → IsWorld sites w → (d : ℕ) → AllWellFormed (set_at w.sets d)
well_there sites w world d = well_formed_there sites w (IsSound-world sites w world) d

pub stays_between : (sites : List ℕ) (w v u : WorldState) (d place ch : ℕ) → IsWorld sites w → WorldStep sites w (Typed d (place + 1) ch) Done v → IsLater sites v u
    → (a b : Identifier) → slice_get (visible_ids (set_at w.sets d)) place ≡ Some a → slice_get (visible_ids (set_at w.sets d)) (place + 1) ≡ Some b
    → (e : ℕ) → IsAttached (set_at u.sets e).ins a → IsAttached (set_at u.sets e).ins (next_identifier sites w d) → IsAttached (set_at u.sets e).ins b
    → StandsBetween (set_at u.sets e) a (next_identifier sites w d) b
stays_between sites w v u d place ch world = subst (λ k. WorldStep sites w (Typed d k ch) Done v → IsLater sites v u → (a b : Identifier) → slice_get (visible_ids (set_at w.sets d)) place ≡ Some a → slice_get (visible_ids (set_at w.sets d)) k ≡ Some b
    → (e : ℕ) → IsAttached (set_at u.sets e).ins a → IsAttached (set_at u.sets e).ins (next_identifier sites w d) → IsAttached (set_at u.sets e).ins b → StandsBetween (set_at u.sets e) a (next_identifier sites w d) b)
    (let up : suc place ≡ place + 1 = omega arith in up)
    (λ step later a b at_a at_b e there_a there there_b.
    let typed = typed_between (set_at w.sets d) (well_there sites w world d) (site_at sites d) ch place a b step.1.0 at_a at_b in (
      order_stays sites w v u d (suc place) ch world step later a (next_identifier sites w d) typed.0 e there_a there,
      order_stays sites w v u d (suc place) ch world step later (next_identifier sites w d) b typed.1 e there there_b,
    ))

pub stays_first : (sites : List ℕ) (w v u : WorldState) (d ch : ℕ) → IsWorld sites w → WorldStep sites w (Typed d 0 ch) Done v → IsLater sites v u
    → (b : Identifier) → slice_get (visible_ids (set_at w.sets d)) 0 ≡ Some b
    → (e : ℕ) → IsAttached (set_at u.sets e).ins (next_identifier sites w d) → IsAttached (set_at u.sets e).ins b → Precedes (set_at u.sets e) (next_identifier sites w d) b
stays_first sites w v u d ch world step later b at e there there_b =
    order_stays sites w v u d 0 ch world step later (next_identifier sites w d) b (typed_first (set_at w.sets d) (well_there sites w world d) (site_at sites d) ch b step.1.0 at) e there there_b

pub stays_last : (sites : List ℕ) (w v u : WorldState) (d place ch : ℕ) → IsWorld sites w → WorldStep sites w (Typed d (place + 1) ch) Done v → IsLater sites v u
    → (a : Identifier) → slice_get (visible_ids (set_at w.sets d)) place ≡ Some a
    → (e : ℕ) → IsAttached (set_at u.sets e).ins a → IsAttached (set_at u.sets e).ins (next_identifier sites w d) → Precedes (set_at u.sets e) a (next_identifier sites w d)
stays_last sites w v u d place ch world = subst (λ k. WorldStep sites w (Typed d k ch) Done v → IsLater sites v u → (a : Identifier) → slice_get (visible_ids (set_at w.sets d)) place ≡ Some a
    → (e : ℕ) → IsAttached (set_at u.sets e).ins a → IsAttached (set_at u.sets e).ins (next_identifier sites w d) → Precedes (set_at u.sets e) a (next_identifier sites w d))
    (let up : suc place ≡ place + 1 = omega arith in up)
    (λ step later a at e there_a there.
    order_stays sites w v u d (suc place) ch world step later a (next_identifier sites w d) (typed_last (set_at w.sets d) (well_there sites w world d) (site_at sites d) ch place a step.1.0 at) e there_a there)

-- at the desk that types, the text is the old one with the character at its place
pub stands_there : (sites : List ℕ) (w v : WorldState) (d place ch : ℕ) → IsWorld sites w → WorldStep sites w (Typed d place ch) Done v → text (set_at v.sets d) ≡ insert (text (set_at w.sets d)) place ch
stands_there sites w v d place ch world step =
    ap text (typed_set sites w v d place ch step) ∙ text_typed (set_at w.sets d) (well_there sites w world d) (site_at sites d) ch place step.0.1 step.1.0
