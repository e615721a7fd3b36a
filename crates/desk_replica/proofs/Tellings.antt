-- What is told of a text, one change after the other.
use Rattle.std.proofs.Common.{◌≡◌, ◌≤◌, ◌+◌, ◌++◌, ℕ, zero, suc, Bool, true, false, cond, not, List, [], ◌∷◌, length, drop, Option, None, Some, inr, sym, ap, subst, ◌∙◌, refl, true≢false, is_some, arith, append_assoc, length-append}
use Rattle.std.specs.Prelude.{◌||◌, ◌&&◌, insert, map as each}
use Rattle.std.specs.Option.{option_map_or}
use Rattle.std.specs.List.{list_any}
use Rattle.std.specs.FinMap as map
use Rattle.std.specs.FinSet as set
use Rattle.std.proofs.lemmas.Bool.{and_parts, or_left}
use Rattle.std.proofs.lemmas.List.{append-nil}
use Rattle.bg_types.specs.Identifier.{Identifier, id_cmp, same_id}
use Rattle.bg_types.specs.WellFormed.{IsWellFormed}
use Rattle.bg_types.specs.OperationSet.{Node, OperationSet, AllWellFormed, Holds, MayJoin, no_operations, with_operation}
use Rattle.bg_types.specs.declared.change.Change.{Change}
use Rattle.bg_types.specs.declared.change.Change.TheVariants.{Put, Cut}
use Rattle.bg_types.specs.declared.op.Place.{Place}
use Rattle.bg_types.specs.declared.op.Place.TheVariants.{Root, After}
use Rattle.bg_types.specs.declared.op.OpView.{OpView}
use Rattle.bg_types.specs.declared.op.OpView.TheVariants.{Insert, Erase}
use Rattle.bg_types.specs.Edit.{IsEdit}
use Rattle.bg_types.proofs.Interface.{id_cmp-total, edit_both, or_swap, same_id-is, same_id-itself, Holds-no_operations, Holds-with_operation}
use Rattle.rga_tree.specs.Walk.{walk}
use Rattle.rga_tree.specs.Attached.{IsAttached, is_attached}
use Rattle.rga_tree.specs.Attached.IsAttached.{below_root, below}
use Rattle.rga_tree.specs.Parts.{IsPartOf}
use Rattle.rga_tree.specs.TextOf.{text, visible_before, is_erased}
use Rattle.rga_tree.specs.Tree.{stands_in}
use Rattle.rga_tree.specs.Elements.{elements, with_element}
use Rattle.rga_tree.specs.Row.{place_of}
use Rattle.rga_tree.proofs.Interface.{Entry, IsAbsent, AllWellFormed-part, all_weaker_by, all_held, is_attached-test, is_listed, all_listed, walk-leaf_at, walk-sub_walk, same_id-swap, IsAttached-tree}
use Rattle.pending_ops.specs.Waiting.{Waiting}
use Rattle.desk_replica.specs.Placement.{IsSettled, whole}
use Rattle.desk_replica.specs.Listening.{extended, told_count, Tells}
use Rattle.desk_replica.specs.Telling.{TextStep, puts, cuts, is_put, is_cut, is_shown, ShowsAll, AreSteps, IsTold, present_after, present_before, char_of, told_of, changes_of}
use Rattle.desk_replica.proofs.Admitting.{IsContent}
use Rattle.desk_replica.proofs.Bounds.{text_within}
use Rattle.desk_replica.proofs.Settled.{in_whole, walk-whole, mark-whole, whole_formed}
use Rattle.desk_replica.proofs.Whole.{contains-union}
use Rattle.desk_replica.proofs.Shown.{passing_before, before_filtered, same_before}
use Rattle.desk_replica.proofs.Steps.{put_count, cut_count, count_cons, count_append, count_with, count_without, count_more, present_in, present_then, attached_each, attached_still, erased_still, shown_attached, told_edit}

-- ---- what was told

pub told_nothing : (told : Option (List Change)) → told ≡ extended told []
told_nothing None = refl
told_nothing (Some xs) = ap Some (sym (append-nil xs))

told_both : (told : Option (List Change)) (xs ys : List Change) → extended (extended told xs) ys ≡ extended told (xs ++ ys)
told_both None xs ys = refl
told_both (Some zs) xs ys = ap Some (append_assoc zs xs ys)

pub told_within : (told : Option (List Change)) (xs : List Change) → told_count (extended told xs) ≤ told_count told + length xs
told_within None xs = omega arith
told_within (Some zs) xs = omega (arith, length-append zs xs)

-- ---- one after the other

module _ (t u : OperationSet) (well : AllWellFormed u) (part : IsPartOf t u) where
  char_still : (id : Identifier) → is_attached t id ≡ true → char_of u id ≡ char_of t id
  char_still id at =
      let n = node_of ((is_attached-test t (AllWellFormed-part t u well part) id).0 at) in
      ap (λ o. option_map_or (λ (m : Node). m.ch) o 0) (part (Insert id n.0.parent n.0.ch) n.1 ∙ sym n.1)
    where
      node_of : {q : Identifier} → IsAttached t.ins q → (n : Node) × (map.get t.ins q ≡ Some n)
      node_of (below_root q ch e) = (record { parent = Root; ch = ch }, e)
      node_of (below q parent ch e up) = (record { parent = After parent; ch = ch }, e)

  place_still : (present : Identifier → Bool) (id : Identifier) → is_attached t id ≡ true → ((x : Identifier) → present x ≡ true → is_attached t x ≡ true)
      → present_before u present id ≡ present_before t present id
  place_still present id at within =
      sym (before_filtered (λ e. present e.0) (λ e. is_attached t e.0) id (walk u Root) (λ e h. within e.0 h) (λ e same. subst (λ q. is_attached t q ≡ true) (same_id-is id e.0 same) at))
      ∙ ap (passing_before (λ (e : Entry). present e.0) id) (sym (walk-sub_walk t u well part))

  -- what is told of elements of t is the same in a set that holds what t holds
  pub told_still : (steps : List TextStep) (present : Identifier → Bool) → ((id : Identifier) → 1 ≤ put_count id steps + cut_count id steps → is_attached t id ≡ true)
      → ((id : Identifier) → present id ≡ true → is_attached t id ≡ true) → changes_of u present steps ≡ changes_of t present steps
  told_still [] present own within = refl
  told_still (puts x ∷ steps) present own within =
      let once = count_with (is_put x) (puts x) steps (same_id-itself x) in
      let at = own x (omega (arith, once)) in
      (λ i. Put (place_still present x at within i) (char_still x at i)
      ∷ told_still steps (present_after present (puts x))
      (λ id some. let p = count_more (is_put id) (puts x) steps in let c = count_more (is_cut id) (puts x) steps in own id (omega (arith, p, c, some)))
      (λ id. after_put id at) i)
    where
      after_put : (id : Identifier) → is_attached t x ≡ true → present_after present (puts x) id ≡ true → is_attached t id ≡ true
      after_put id at = by (same_id id x) refl
        where
          by : (b : Bool) → same_id id x ≡ b → (b || present id) ≡ true → is_attached t id ≡ true
          by true same h = subst (λ q. is_attached t q ≡ true) (sym (same_id-is id x same)) at
          by false same h = within id h
  told_still (cuts x ∷ steps) present own within =
      let once = count_with (is_cut x) (cuts x) steps (same_id-itself x) in
      let at = own x (omega (arith, once)) in
      (λ i. Cut (place_still present x at within i)
      ∷ told_still steps (present_after present (cuts x))
      (λ id some. let p = count_more (is_put id) (cuts x) steps in let c = count_more (is_cut id) (cuts x) steps in own id (omega (arith, p, c, some)))
      (λ id h. within id (and_parts (not (same_id id x)) (present id) h).1) i)

told_parts : (t : OperationSet) (xs ys : List TextStep) (present : Identifier → Bool) → changes_of t present (xs ++ ys) ≡ changes_of t present xs ++ changes_of t (present_in present xs) ys
told_parts t [] ys present = refl
told_parts t (x ∷ xs) ys present = ap (λ l. told_of t present x ∷ l) (told_parts t xs ys (present_after present x))

-- what steps name is attached where they lead to
pub steps_attached : (s t : OperationSet) (steps : List TextStep) → AreSteps s t steps → (id : Identifier) → 1 ≤ put_count id steps + cut_count id steps → is_attached t id ≡ true
steps_attached s t steps h id some = by (is_shown s id) (is_shown t id) refl refl
  where
    by : (a b : Bool) → is_shown s id ≡ a → is_shown t id ≡ b → is_attached t id ≡ true
    by a true is then = shown_attached t id then
    by true false is then = attached_still s t h.well_formed h.part id (shown_attached s id is)
    by false false is then =
        let p = h.each_put id ∙ (λ i. cond (then i && not (is i)) 1 0) in
        let c = h.each_cut id ∙ (λ i. cond (is i && not (then i)) 1 0) in
        absurd (omega (arith, p, c, some))

-- what was shown and is not any more is not shown later
gone_for_good : (s t u : OperationSet) → AllWellFormed u → IsPartOf s t → IsPartOf t u → (id : Identifier) → is_shown s id ≡ true → is_shown t id ≡ false → is_shown u id ≡ false
gone_for_good s t u well one two id shown gone =
    let at = attached_still s t (AllWellFormed-part t u well two) one id (shown_attached s id shown) in
    let marked : is_erased t id ≡ true = mark (is_erased t id) (sym (ap (λ b. b && not (is_erased t id)) at) ∙ gone) in
    ap (λ b. is_attached u id && not b) (erased_still t u well two id marked) ∙ and_false (is_attached u id)
  where
    mark : (b : Bool) → not b ≡ false → b ≡ true
    mark true h = refl
    mark false h = absurd (true≢false h)

    and_false : (b : Bool) → (b && false) ≡ false
    and_false true = refl
    and_false false = refl

-- what the steps to t show stays shown in u
abbrev pub Stays : (s t u : OperationSet) → Type 0
Stays s t u = (id : Identifier) → is_shown t id ≡ true → is_shown s id ≡ false → is_shown u id ≡ true

pub steps_both : (s t u : OperationSet) (xs ys : List TextStep) → AreSteps s t xs → AreSteps t u ys → Stays s t u → AreSteps s u (xs ++ ys)
steps_both s t u xs ys a b stays = record {
  part = λ op h. b.part op (a.part op h);
  well_formed = b.well_formed;
  each_put = λ id. count_append (is_put id) xs ys ∙ (λ i. a.each_put id i + b.each_put id i) ∙ put_twice (is_shown s id) (is_shown t id) (is_shown u id) (stays id) (gone id);
  each_cut = λ id. count_append (is_cut id) xs ys ∙ (λ i. a.each_cut id i + b.each_cut id i) ∙ cut_twice (is_shown s id) (is_shown t id) (is_shown u id) (stays id) (gone id);
}
  where
    gone : (id : Identifier) → is_shown s id ≡ true → is_shown t id ≡ false → is_shown u id ≡ false
    gone = gone_for_good s t u b.well_formed a.part b.part

    put_twice : (x y z : Bool) → (y ≡ true → x ≡ false → z ≡ true) → (x ≡ true → y ≡ false → z ≡ false) → cond (y && not x) 1 0 + cond (z && not y) 1 0 ≡ cond (z && not x) 1 0
    put_twice true true true f g = refl
    put_twice true true false f g = refl
    put_twice true false true f g = absurd (true≢false (g refl refl))
    put_twice true false false f g = refl
    put_twice false true true f g = refl
    put_twice false true false f g = absurd (true≢false (sym (f refl refl)))
    put_twice false false true f g = refl
    put_twice false false false f g = refl

    cut_twice : (x y z : Bool) → (y ≡ true → x ≡ false → z ≡ true) → (x ≡ true → y ≡ false → z ≡ false) → cond (x && not y) 1 0 + cond (y && not z) 1 0 ≡ cond (x && not z) 1 0
    cut_twice true true true f g = refl
    cut_twice true true false f g = refl
    cut_twice true false true f g = absurd (true≢false (g refl refl))
    cut_twice true false false f g = refl
    cut_twice false true true f g = refl
    cut_twice false true false f g = absurd (true≢false (sym (f refl refl)))
    cut_twice false false true f g = refl
    cut_twice false false false f g = refl

changes_both : (s t u : OperationSet) (xs ys : List TextStep) → AreSteps s t xs → AreSteps t u ys → changes_of u (is_shown s) (xs ++ ys) ≡ changes_of t (is_shown s) xs ++ changes_of u (is_shown t) ys
changes_both s t u xs ys a b =
    told_parts u xs ys (is_shown s)
    ∙ (λ i. told_still t u b.well_formed b.part xs (is_shown s) (steps_attached s t xs a) (λ id h. attached_still s t a.well_formed a.part id (shown_attached s id h)) i
    ++ changes_of u (λ id. present_then s t xs a id i) ys)

pub tells_more : (s t u : OperationSet) (a b c : Option (List Change)) → Tells s t a b → Tells t u b c → Stays s t u → Tells s u a c
tells_more s t u a b c first second stays = record {
  steps = first.steps ++ second.steps;
  are_steps = steps_both s t u first.steps second.steps first.are_steps second.are_steps stays;
  appended =
      second.appended ∙ ap (λ o. extended o (changes_of u (is_shown t) second.steps)) first.appended
      ∙ told_both a (changes_of t (is_shown s) first.steps) (changes_of u (is_shown t) second.steps)
      ∙ ap (extended a) (sym (changes_both s t u first.steps second.steps first.are_steps second.are_steps));
}

-- no element is shown and is not
never : (b : Bool) → cond {A = ℕ} (b && not b) 1 0 ≡ 0
never true = refl
never false = refl

steps_none : (s : OperationSet) → AllWellFormed s → AreSteps s s []
steps_none s well = record { part = λ op h. h; well_formed = well; each_put = λ id. sym (never (is_shown s id)); each_cut = λ id. sym (never (is_shown s id)) }

pub tells_nothing : (s t : OperationSet) (old new : Option (List Change)) → AllWellFormed s → t ≡ s → new ≡ old → Tells s t old new
tells_nothing s t old new well same still =
    subst (λ x. Tells s x old new) (sym same) (record { steps = []; are_steps = steps_none s well; appended = still ∙ told_nothing old })

pub shows_same : (s t : OperationSet) → t ≡ s → ShowsAll s t
shows_same s t same id h = ap (λ x. is_shown x id) same ∙ h

pub stays_shown : (s t u : OperationSet) → ShowsAll t u → Stays s t u
stays_shown s t u all id h none = all id h

-- where a step shows nothing new
pub stays_old : (s t u : OperationSet) → ShowsAll t s → Stays s t u
stays_old s t u back id h none = absurd (true≢false (sym (back id h) ∙ none))

-- ---- of the operations in the tree and those that wait together

module _ (t : OperationSet) (w : Waiting) (c : IsContent t) (d : IsSettled t w) where
  pub tree_part : IsPartOf t (whole t w)
  tree_part (Insert id parent ch) h = in_whole t w.held c.well d.well_formed c.tree c.only d.parted id (record { parent = parent; ch = ch }) h
  tree_part (Erase target) h = contains-union t w.held target ∙ or_left (set.contains t.del target) (set.contains w.held.del target) h

  pub formed_whole : AllWellFormed (whole t w)
  formed_whole = whole_formed t w.held c.well d.well_formed c.tree c.only d.parted

  attached_whole : (id : Identifier) → is_attached (whole t w) id ≡ is_attached t id
  attached_whole id = ap (λ (es : List Entry). list_any (same_id id) (each (λ (e : Entry). e.0) es)) (walk-whole t w.held c.well d.well_formed c.tree c.only d.parted)

  pub shown_whole : (id : Identifier) → is_shown (whole t w) id ≡ is_shown t id
  shown_whole id = ap (λ b. b && not (is_erased (whole t w) id)) (attached_whole id) ∙ by (is_attached t id) refl
    where
      in_itself : {q : Identifier} → IsAttached t.ins q → map.contains_key t.ins q ≡ true
      in_itself (below_root q ch e) = ap is_some e
      in_itself (below q parent ch e up) = ap is_some e

      by : (b : Bool) → is_attached t id ≡ b → (b && not (is_erased (whole t w) id)) ≡ (b && not (is_erased t id))
      by true at = ap not (mark-whole t w.held c.well d.well_formed c.tree c.only d.parted id (in_itself ((is_attached-test t c.well id).0 at)))
      by false at = refl

pub tells_whole : (t u : OperationSet) (w v : Waiting) (old new : Option (List Change)) → IsContent t → IsSettled t w → IsContent u → IsSettled u v → IsPartOf (whole t w) (whole u v)
    → Tells t u old new → Tells (whole t w) (whole u v) old new
tells_whole t u w v old new ct dt cu du part h = record {
  steps = h.steps;
  are_steps = record {
    part = part;
    well_formed = formed_whole u v cu du;
    each_put = λ id. h.are_steps.each_put id ∙ (λ i. cond (sym (shown_whole u v cu du id) i && not (sym (shown_whole t w ct dt id) i)) 1 0);
    each_cut = λ id. h.are_steps.each_cut id ∙ (λ i. cond (sym (shown_whole t w ct dt id) i && not (sym (shown_whole u v cu du id) i)) 1 0);
  };
  appended =
      h.appended
      ∙ ap (extended old)
      (sym (told_still u (whole u v) (formed_whole u v cu du) (tree_part u v cu du) h.steps (is_shown t) (steps_attached t u h.steps h.are_steps)
      (λ id k. attached_still t u h.are_steps.well_formed h.are_steps.part id (shown_attached t id k)))
      ∙ (λ i. changes_of (whole u v) (λ id. sym (shown_whole t w ct dt id) i) h.steps));
}

-- the operation that was taken joins what was kept
pub part_with : (s t : OperationSet) (op : OpView) → MayJoin s op → t ≡ with_operation s op → IsPartOf s t
part_with s t op may is x h = subst (λ (r : OperationSet). Holds r x) (sym is) ((Holds-with_operation s op x may).1 (inr h))

pub told_list : (s t : OperationSet) (old new : List Change) → Tells s t (Some old) (Some new) → IsTold s t old new
told_list s t old new h = record {
  steps = h.steps;
  are_steps = h.are_steps;
  appended = (let same : Some new ≡ Some (old ++ changes_of t (is_shown s) h.steps) = h.appended in cc);
}

-- ---- told changes are the change

behind : {X : Type 0} (xs ys : List X) → drop (length xs) (xs ++ ys) ≡ ys
behind [] ys = refl
behind (x ∷ xs) ys = behind xs ys

pub told_change : (s t : OperationSet) (old new : List Change) → IsTold s t old new → IsEdit (text s) (drop (length old) new) (text t)
told_change s t old new h =
    subst (λ l. IsEdit (text s) l (text t)) (sym (ap (drop (length old)) h.appended ∙ behind old (changes_of t (is_shown s) h.steps))) (told_edit s t h.steps h.are_steps)

pub told_in_turn : (start : List ℕ) (s t : OperationSet) (old new : List Change) → IsEdit start old (text s) → IsTold s t old new → IsEdit start new (text t)
told_in_turn start s t old new first h =
    let xs = changes_of t (is_shown s) h.steps in
    subst (λ l. IsEdit start l (text t)) (sym h.appended) (edit_both start (text s) (text t) old xs first (told_edit s t h.steps h.are_steps))

-- a fresh desk shows nothing
pub text-nothing : text no_operations ≡ []
text-nothing = by (text no_operations) (let few = text_within no_operations (λ op h. absurd (Holds-no_operations op h)) in omega (arith, few, map.len-empty id_cmp Node, set.len-empty id_cmp))
  where
    by : (t : List ℕ) → length t ≤ 0 → t ≡ []
    by [] h = refl
    by (x ∷ t) h = absurd (omega (arith, h))

-- ---- an element is placed

any_insert : (p : Identifier → Bool) (n : Entry) (es : List Entry) (k : ℕ) → list_any p (each (λ (e : Entry). e.0) (insert es k n)) ≡ (p n.0 || list_any p (each (λ (e : Entry). e.0) es))
any_insert p n es zero = refl
any_insert p n [] (suc k) = refl
any_insert p n (y ∷ ys) (suc k) = ap (λ b. p y.0 || b) (any_insert p n ys k) ∙ or_swap (p y.0) (p n.0) (list_any p (each (λ (e : Entry). e.0) ys))

module _ (t : OperationSet) (id : Identifier) (parent : Place) (ch : ℕ) (c : IsContent t) (formed : IsWellFormed (Insert id parent ch)) (stands : stands_in t parent ≡ true) (new : map.contains_key t.ins id ≡ false) where
  abbrev n : Entry
  n = (id, record { parent = parent; ch = ch })

  absent : IsAbsent id (walk t Root)
  absent = all_weaker_by (λ x. map.get t.ins x.0 ≡ Some x.1) (λ x. same_id id x.0 ≡ false) (walk t Root) (λ x kept. other x kept (same_id id x.0) refl) (all_held t (map.len t.ins) Root)
    where
      other : (x : Entry) → map.get t.ins x.0 ≡ Some x.1 → (b : Bool) → same_id id x.0 ≡ b → b ≡ false
      other x kept true same = absurd (true≢false (sym (ap is_some (ap (map.get t.ins) (same_id-is id x.0 same) ∙ kept)) ∙ new))
      other x kept false same = refl

  unlisted : (es : List Entry) → IsAbsent id es → list_any (same_id id) (each (λ (e : Entry). e.0) es) ≡ false
  unlisted [] h = refl
  unlisted (e ∷ es) h = λ i. h.0 i || unlisted es h.1 i

  unmarked : is_erased t id ≡ false
  unmarked = by (is_erased t id) refl
    where
      by : (b : Bool) → is_erased t id ≡ b → b ≡ false
      by true e = absurd (true≢false (sym (c.only id e) ∙ new))
      by false e = refl

  unshown : is_shown t id ≡ false
  unshown = ap (λ b. b && not (is_erased t id)) (unlisted (walk t Root) absent)

  abbrev pub grown : Bool → OperationSet
  grown hidden = with_element t (record { id = id; parent = parent; ch = ch; hidden = hidden })

  attached_now : (hidden : Bool) (x : Identifier) → is_attached (grown hidden) x ≡ (same_id x id || is_attached t x)
  attached_now hidden x = by hidden
    where
      put : is_attached (with_operation t (Insert id parent ch)) x ≡ (same_id x id || is_attached t x)
      put =
          ap (λ (es : List Entry). list_any (same_id x) (each (λ (e : Entry). e.0) es)) (walk-leaf_at t id (record { parent = parent; ch = ch }) c.well c.tree formed stands new)
          ∙ any_insert (same_id x) n (walk t Root) (place_of parent id (elements t))

      by : (h : Bool) → is_attached (grown h) x ≡ (same_id x id || is_attached t x)
      by true = put
      by false = put

  joins : MayJoin t (Insert id parent ch)
  joins kept at = absurd (true≢false (sym (ap is_some at) ∙ new))

  part_now : (hidden : Bool) → IsPartOf t (grown hidden)
  part_now false op h = part_with t (grown false) (Insert id parent ch) joins refl op h
  part_now true op h = part_with (grown false) (grown true) (Erase id) tt refl op (part_with t (grown false) (Insert id parent ch) joins refl op h)

  shown_now : (hidden : Bool) (x : Identifier) → is_shown (grown hidden) x ≡ cond (same_id x id) (not hidden) (is_shown t x)
  shown_now hidden x = by (same_id x id) refl
    where
      own : (h : Bool) → same_id x id ≡ true → not (is_erased (grown h) x) ≡ not h
      own true same = ap not (set.contains-insert id_cmp-total t.del id x ∙ ap (λ k. k || is_erased t x) same)
      own false same = ap not (ap (is_erased t) (same_id-is x id same) ∙ unmarked)

      other : (h : Bool) → same_id x id ≡ false → is_erased (grown h) x ≡ is_erased t x
      other true same = set.contains-insert id_cmp-total t.del id x ∙ ap (λ k. k || is_erased t x) same
      other false same = refl

      by : (b : Bool) → same_id x id ≡ b → is_shown (grown hidden) x ≡ cond b (not hidden) (is_shown t x)
      by true same = ap (λ b. b && not (is_erased (grown hidden) x)) (attached_now hidden x ∙ ap (λ b. b || is_attached t x) same) ∙ own hidden same
      by false same = λ i. (attached_now hidden x ∙ ap (λ b. b || is_attached t x) same) i && not (other hidden same i)

  shown_before : (x : Identifier) (b : Bool) → same_id x id ≡ b → is_shown t x ≡ cond (same_id x id) false (is_shown t x)
  shown_before x true same = ap (is_shown t) (same_id-is x id same) ∙ unshown ∙ sym (ap (λ b. cond b false (is_shown t x)) same)
  shown_before x false same = sym (ap (λ b. cond b false (is_shown t x)) same)

  pub shows_placed : (u : OperationSet) (hidden : Bool) → u ≡ grown hidden → ShowsAll t u
  shows_placed u hidden is x h = ap (λ (r : OperationSet). is_shown r x) is ∙ shown_now hidden x ∙ by (same_id x id) refl
    where
      by : (b : Bool) → same_id x id ≡ b → cond b (not hidden) (is_shown t x) ≡ true
      by true same = absurd (true≢false (sym h ∙ ap (is_shown t) (same_id-is x id same) ∙ unshown))
      by false same = h

  steps_hidden : AllWellFormed (grown true) → AreSteps t (grown true) []
  steps_hidden well = record {
    part = part_now true;
    well_formed = well;
    each_put = λ x. sym ((λ i. cond (unchanged x i && not (is_shown t x)) 1 0) ∙ never (is_shown t x));
    each_cut = λ x. sym ((λ i. cond (is_shown t x && not (unchanged x i)) 1 0) ∙ never (is_shown t x));
  }
    where
      unchanged : (x : Identifier) → is_shown (grown true) x ≡ is_shown t x
      unchanged x = shown_now true x ∙ sym (shown_before x (same_id x id) refl)

  steps_put : AllWellFormed (grown false) → AreSteps t (grown false) (puts id ∷ [])
  steps_put well = record {
    part = part_now false;
    well_formed = well;
    each_put = λ x. count_cons (is_put x) (puts id) [] ∙ by_put x (same_id x id) refl;
    each_cut = λ x. count_without (is_cut x) (puts id) [] refl ∙ sym (by_cut x (same_id x id) refl);
  }
    where
      now : (x : Identifier) (b : Bool) → same_id x id ≡ b → is_shown (grown false) x ≡ cond b true (is_shown t x)
      now x b same = shown_now false x ∙ ap (λ k. cond k true (is_shown t x)) same

      by_put : (x : Identifier) (b : Bool) → same_id x id ≡ b → cond (same_id x id) 1 0 + 0 ≡ cond (is_shown (grown false) x && not (is_shown t x)) 1 0
      by_put x true same = (λ i. cond (same i) 1 0 + 0) ∙ sym (λ i. cond (now x true same i && not ((ap (is_shown t) (same_id-is x id same) ∙ unshown) i)) 1 0)
      by_put x false same = (λ i. cond (same i) 1 0 + 0) ∙ sym ((λ i. cond (now x false same i && not (is_shown t x)) 1 0) ∙ never (is_shown t x))

      by_cut : (x : Identifier) (b : Bool) → same_id x id ≡ b → cond {A = ℕ} (is_shown t x && not (is_shown (grown false) x)) 1 0 ≡ 0
      by_cut x true same = λ i. cond ((ap (is_shown t) (same_id-is x id same) ∙ unshown) i && not (now x true same i)) 1 0
      by_cut x false same = (λ i. cond (is_shown t x && not (now x false same i)) 1 0) ∙ never (is_shown t x)

  change_put : AllWellFormed (grown false) → Put (visible_before (grown false) id) ch ≡ told_of (grown false) (is_shown t) (puts id)
  change_put well = λ i. Put (same_before (λ e. not (is_erased t e.0)) (λ e. is_shown t e.0) id (walk (grown false) Root) others i) (sym char_now i)
    where
      char_now : char_of (grown false) id ≡ ch
      char_now = ap (λ o. option_map_or (λ (m : Node). m.ch) o 0) (map.get-insert id_cmp-total t.ins id (record { parent = parent; ch = ch }) id ∙ ap (λ b. cond b (Some (record { parent = parent; ch = ch })) (map.get t.ins id)) (same_id-itself id))

      others : (x : Entry) → is_listed x.0 (walk (grown false) Root) ≡ true → same_id id x.0 ≡ false → not (is_erased t x.0) ≡ is_shown t x.0
      others x l differ =
          let now = all_listed (λ q. is_attached (grown false) q ≡ true) (walk (grown false) Root) x.0 (attached_each (grown false) well) l in
          let at : is_attached t x.0 ≡ true = sym (attached_now false x.0 ∙ ap (λ b. b || is_attached t x.0) (same_id-swap x.0 id ∙ differ)) ∙ now in
          sym (ap (λ b. b && not (is_erased t x.0)) at)

  pub tells_placed : (u : OperationSet) (hidden : Bool) (a b : Option (List Change)) → AllWellFormed u → u ≡ grown hidden → b ≡ extended a (cond hidden [] (Put (visible_before u id) ch ∷ [])) → Tells t u a b
  tells_placed u true a b well is told = subst (λ r. Tells t r a b) (sym is) (record { steps = []; are_steps = steps_hidden (subst AllWellFormed is well); appended = told })
  tells_placed u false a b well is told = subst (λ r. Tells t r a b) (sym is) (record {
    steps = puts id ∷ [];
    are_steps = steps_put (subst AllWellFormed is well);
    appended = told ∙ (λ i. extended a (Put (visible_before (is i) id) ch ∷ [])) ∙ ap (λ x. extended a (x ∷ [])) (change_put (subst AllWellFormed is well));
  })

-- at most one change is told of it
pub one_told : (hidden : Bool) (x : Change) (a b : Option (List Change)) → b ≡ extended a (cond hidden [] (x ∷ [])) → told_count b ≤ told_count a + 1
one_told true x a b told = let w = told_within a [] in omega (arith, ap told_count told, w)
one_told false x a b told = let w = told_within a (x ∷ []) in omega (arith, ap told_count told, w)

-- ---- a visible element is hidden

module _ (t : OperationSet) (target : Identifier) (c : IsContent t) (there : map.contains_key t.ins target ≡ true) (shown : is_erased t target ≡ false) where
  abbrev pub after : OperationSet
  after = with_operation t (Erase target)

  at_target : is_shown t target ≡ true
  at_target = λ i. (is_attached-test t c.well target).1 (IsAttached-tree t target c.well c.tree there) i && not (shown i)

  shown_after : (x : Identifier) → is_shown after x ≡ (is_shown t x && not (same_id x target))
  shown_after x = ap (λ b. is_attached t x && not b) (set.contains-insert id_cmp-total t.del target x) ∙ by (is_attached t x) (same_id x target) (is_erased t x)
    where
      by : (a b e : Bool) → (a && not (b || e)) ≡ ((a && not e) && not b)
      by true true true = refl
      by true true false = refl
      by true false true = refl
      by true false false = refl
      by false b e = refl

  steps_cut : AllWellFormed after → AreSteps t after (cuts target ∷ [])
  steps_cut well = record {
    part = part_with t after (Erase target) tt refl;
    well_formed = well;
    each_put = λ x. count_without (is_put x) (cuts target) [] refl ∙ sym ((λ i. cond (shown_after x i && not (is_shown t x)) 1 0) ∙ none (is_shown t x) (same_id x target));
    each_cut = λ x. count_cons (is_cut x) (cuts target) [] ∙ one x (same_id x target) refl ∙ sym (λ i. cond (is_shown t x && not (shown_after x i)) 1 0);
  }
    where
      none : (a b : Bool) → cond {A = ℕ} ((a && not b) && not a) 1 0 ≡ 0
      none true true = refl
      none true false = refl
      none false b = refl

      gone : (a : Bool) → cond {A = ℕ} (a && not (a && true)) 1 0 ≡ 0
      gone true = refl
      gone false = refl

      one : (x : Identifier) (b : Bool) → same_id x target ≡ b → cond (same_id x target) 1 0 + 0 ≡ cond (is_shown t x && not (is_shown t x && not (same_id x target))) 1 0
      one x true same =
          let at : is_shown t x ≡ true = ap (is_shown t) (same_id-is x target same) ∙ at_target in
          (λ i. cond (same i) 1 0 + 0) ∙ sym (λ i. cond (at i && not (at i && not (same i))) 1 0)
      one x false same = (λ i. cond (same i) 1 0 + 0) ∙ sym ((λ i. cond (is_shown t x && not (is_shown t x && not (same i))) 1 0) ∙ gone (is_shown t x))

  change_cut : Cut (visible_before t target) ≡ told_of after (is_shown t) (cuts target)
  change_cut = λ i. Cut (same_before (λ e. not (is_erased t e.0)) (λ e. is_shown t e.0) target (walk t Root)
      (λ x l differ. sym (ap (λ b. b && not (is_erased t x.0)) (all_listed (λ q. is_attached t q ≡ true) (walk t Root) x.0 (attached_each t c.well) l))) i)

  pub tells_hidden : (u : OperationSet) (a b : Option (List Change)) → AllWellFormed u → u ≡ after → b ≡ extended a (Cut (visible_before t target) ∷ []) → Tells t u a b
  tells_hidden u a b well is told = subst (λ r. Tells t r a b) (sym is) (record {
    steps = cuts target ∷ [];
    are_steps = steps_cut (subst AllWellFormed is well);
    appended = told ∙ ap (λ x. extended a (x ∷ [])) change_cut;
  })
