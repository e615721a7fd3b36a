-- A desk that takes operations of a list, one after the other.
use Rattle.std.proofs.Common.{◌≡◌, ◌≤◌, ◌<◌, ◌+◌, ◌-◌, ◌++◌, ℕ, zero, suc, Bool, true, false, cond, not, List, [], ◌∷◌, length, take, drop, get_or, Option, None, Some, inl, inr, refl, sym, ap, subst, ◌∙◌, true≢false, is_some, arith, append_assoc}
use Rattle.std.specs.Prelude.{◌⊎◌, ◌&&◌, All, Contains, filter, map as each}
use Rattle.std.specs.List.{list_any}
use Rattle.std.specs.FinMap as map
use Rattle.std.specs.FinSet as set
use Rattle.std.proofs.lemmas.Bool.{and_parts}
use Rattle.std.proofs.lemmas.Option.{slice_get-get_or}
use Rattle.std.proofs.lemmas.List.{get_or_default, take_all}
use Rattle.std.proofs.lemmas.List.Elements.{All-append, All-cons, All-head, All-nil, All-tail, Contains-append_left, Contains-append_right, Contains-append_cases}
use Rattle.bg_types.specs.Identifier.{Identifier, id_cmp, same_id}
use Rattle.bg_types.specs.OperationSet.{OperationSet, Node, AllWellFormed, Holds, MayJoin, union, with_operation, size}
use Rattle.bg_types.specs.declared.change.Change.{Change}
use Rattle.bg_types.specs.declared.op.Place.TheVariants.{Root}
use Rattle.bg_types.specs.declared.op.OpView.{OpView}
use Rattle.bg_types.specs.declared.op.OpView.TheVariants.{Insert, Erase}
use Rattle.bg_types.proofs.Interface.{Holds-with_operation, Holds-may_join, get-union, unwrap_first}
use Rattle.rga_tree.specs.declared.element.Element.{Element}
use Rattle.rga_tree.specs.Walk.{walk_to}
use Rattle.rga_tree.specs.Attached.{is_attached}
use Rattle.rga_tree.specs.Elements.{elements}
use Rattle.rga_tree.specs.Row.{hidden_ids}
use Rattle.rga_tree.specs.TextOf.{is_erased}
use Rattle.rga_tree.specs.Parts.{IsPartOf}
use Rattle.desk_replica.specs.Desk.{Desk, insertion_of}
use Rattle.desk_replica.specs.Listed.{insertions_in, deletions_in, operations_in}
use Rattle.desk_replica.specs.Listening.{IsHeard, told_count}
use Rattle.desk_replica.specs.Telling.{ShowsAll, is_shown, changes_of, waiting_count}
use Rattle.desk_replica.specs.Merging.{IsErasedIn, IsGrown, IsGrownBy, IsStopped}
use Rattle.desk_replica.specs.Reply.{IsTaken}
use Rattle.desk_replica.specs.declared.answer.TakeFault.{TakeFault}
use Rattle.desk_replica.specs.declared.answer.Taken.{Taken}
use Rattle.desk_replica.specs.declared.answer.Taken.TheVariants.{Known, Placed, Hidden, Held}
use Rattle.desk_replica.proofs.Bounds.{walked_inserted}
use Rattle.desk_replica.proofs.ElementPlaces.{element_at}
use Rattle.desk_replica.proofs.Hearing.{room_left, room_within, told_grows}
use Rattle.desk_replica.proofs.InTurn.{joined, joined_split, rest_from, split_at, take_behind, take_push}
use Rattle.desk_replica.proofs.Tellings.{Stays, stays_old, stays_shown}
use Rattle.desk_replica.proofs.Rows.{deletions-append, insertions-append}

-- what one list has another one has too
abbrev pub IsListedIn : (xs ys : List OpView) → Type 0
IsListedIn xs ys = (op : OpView) → Contains xs op → Contains ys op

pub listed_alike : (xs : List OpView) → IsListedIn xs xs
listed_alike xs op h = h

pub only_listed : (op x : OpView) → Contains (op ∷ []) x → op ≡ x
only_listed op x h = by h.0 h.1 h.2
  where
    by : (k : ℕ) → k < 1 → get_or (op ∷ []) k x ≡ x → op ≡ x
    by zero low e = e
    by (suc k) low e = absurd (omega arith)

pub listed_one : (op : OpView) (ops : List OpView) → Contains ops op → IsListedIn (op ∷ []) ops
listed_one op ops h x only = subst (Contains ops) (only_listed op x only) h

-- ---- sets

grown_same : (s u : OperationSet) (ops : List OpView) → u ≡ s → IsGrownBy s ops u
grown_same s u ops same = subst (IsGrownBy s ops) (sym same) (record { keeps = λ op h. h; of_list = λ op h. inl h })

grown_with : (s u : OperationSet) (op : OpView) → MayJoin s op → u ≡ with_operation s op → IsGrownBy s (op ∷ []) u
grown_with s u op may is = subst (IsGrownBy s (op ∷ [])) (sym is) (record {
  keeps = λ x h. (Holds-with_operation s op x may).1 (inr h);
  of_list = λ x h. elim ((Holds-with_operation s op x may).0 h) [
    | inl same ↦ inr (0, omega arith, sym same)
    | inr old ↦ inl old
  ];
})

grown_then : (s t u : OperationSet) (xs ys zs : List OpView) → IsGrownBy s xs t → IsGrownBy t ys u → IsListedIn xs zs → IsListedIn ys zs → IsGrownBy s zs u
grown_then s t u xs ys zs a b first second = record {
  keeps = λ op h. b.keeps op (a.keeps op h);
  of_list = λ op h. elim (b.of_list op h) [
    | inl old ↦ elim (a.of_list op old) [ inl oldest ↦ inl oldest | inr new ↦ inr (first op new) ]
    | inr new ↦ inr (second op new)
  ];
}

-- ---- desks

pub desk_still : (a b : Desk) (ops : List OpView) → b ≡ a → IsGrown a ops b
desk_still a b ops same = subst (IsGrown a ops) (sym same) (record { grown = grown_same a.set a.set ops refl; site = refl; spare = omega arith })

pub desk_with : (a b : Desk) (op : OpView) → MayJoin a.set op → b.set ≡ with_operation a.set op → b.site ≡ a.site → size a.set + a.spare ≤ size b.set + b.spare → IsGrown a (op ∷ []) b
desk_with a b op may is site spare = record { grown = grown_with a.set b.set op may is; site = site; spare = spare }

pub desk_then : (a b c : Desk) (xs ys zs : List OpView) → IsGrown a xs b → IsGrown b ys c → IsListedIn xs zs → IsListedIn ys zs → IsGrown a zs c
desk_then a b c xs ys zs one two first second = record {
  grown = grown_then a.set b.set c.set xs ys zs one.grown two.grown first second;
  site = two.site ∙ one.site;
  spare = omega (arith, one.spare, two.spare);
}

-- operations of a longer list
pub desk_listed : (a b : Desk) (xs zs : List OpView) → IsGrown a xs b → IsListedIn xs zs → IsGrown a zs b
desk_listed a b xs zs one first = record {
  grown = record { keeps = one.grown.keeps; of_list = λ op h. elim (one.grown.of_list op h) [ inl old ↦ inl old | inr new ↦ inr (first op new) ] };
  site = one.site;
  spare = one.spare;
}

-- ---- a refusal

-- after others were taken and told
pub stopped_then : (a b c : Desk) (ys zs : List OpView) (x y z : Option (List Change)) (k m n : ℕ) (fault : TakeFault) → IsHeard a.set b.set x y k m → IsHeard b.set c.set y z m n
    → IsStopped ys c y z m fault → IsListedIn ys zs → IsStopped zs c x z k fault
stopped_then a b c ys zs x y z k m n fault one two h first = record {
  op = h.op;
  listed = first h.op h.listed;
  refused = h.refused;
  unpaid = λ memory. elim (h.unpaid memory) [
    | inl none ↦ inl none
    | inr short ↦ inr (λ room.
        let up = told_grows x y (changes_of b.set (is_shown a.set) one.tells.steps) one.tells.appended in
        let on = told_grows y z (changes_of c.set (is_shown b.set) two.tells.steps) two.tells.appended in
        let w = waiting_count c.set in
        let all = room_within x k (told_count y - told_count x + (told_count z - told_count y + w + 1)) (told_count z - told_count x + w + 1) (omega (arith, up, on)) room in
        short (room_left x y (changes_of b.set (is_shown a.set) one.tells.steps) k m (told_count y - told_count x) (told_count z - told_count y + w + 1) one.tells.appended (omega (arith, up)) one.capacity all))
  ];
}

-- of a longer list
pub stopped_listed : (c : Desk) (ys zs : List OpView) (x z : Option (List Change)) (k : ℕ) (fault : TakeFault) → IsStopped ys c x z k fault → IsListedIn ys zs → IsStopped zs c x z k fault
stopped_listed c ys zs x z k fault h first = record { op = h.op; listed = first h.op h.listed; refused = h.refused; unpaid = h.unpaid }

-- ---- deletions alone

-- where no insertion is new, nothing new is shown
pub shows_erased : (s u : OperationSet) → u.ins ≡ s.ins → IsPartOf s u → ShowsAll u s
shows_erased s u same part id h =
    let b = and_parts (is_attached u id) (not (is_erased u id)) h in
    let at : is_attached u id ≡ is_attached s id = ap (λ (m : map.FinMap id_cmp Node). list_any (same_id id) (each (λ (e : Identifier × Node). e.0) (walk_to (map.len m) m Root))) same in
    λ i. (sym at ∙ b.0) i && (ap not (unmarked (is_erased s id) refl b.1)) i
  where
    unmarked : (k : Bool) → is_erased s id ≡ k → not (is_erased u id) ≡ true → is_erased s id ≡ false
    unmarked true e free = absurd (true≢false (sym free ∙ ap not (part (Erase id) e)))
    unmarked false e free = e

-- where deletions alone were taken, or insertions alone are, what is gone stays so
pub stays_of_kind : (s t u : OperationSet) (deletions : Bool) → IsPartOf s t → (deletions ≡ true → t.ins ≡ s.ins) → (deletions ≡ false → ShowsAll t u) → Stays s t u
stays_of_kind s t u true part insertions shows = stays_old s t u (shows_erased s t (insertions refl) part)
stays_of_kind s t u false part insertions shows = stays_shown s t u (shows refl)

-- ---- lists

pub all_done : {X : Type 0} (P : X → Type 0) (xs : List X) (j : ℕ) → length xs ≤ j → All P (take j xs) → All P xs
all_done P xs j long done = subst (All P) (take_all j xs long) done

-- what is told of a row in the middle
module _ (tell : List Element → List OpView) (tell-append : (xs ys : List Element) → tell (xs ++ ys) ≡ tell xs ++ tell ys) where
  pub middle_listed : (all front row rest : List Element) → all ≡ front ++ row ++ rest → IsListedIn (tell row) (tell all)
  middle_listed all front row rest is op h =
      subst (λ l. Contains l op) (sym (ap tell is ∙ tell-append (front ++ row) rest ∙ ap (λ l. l ++ tell rest) (tell-append front row)))
      (Contains-append_left (tell front ++ tell row) (tell rest) op (Contains-append_right (tell front) (tell row) op h))

  pub part_listed : (parts : List (List Element)) (p : ℕ) (row all : List Element) → p < length parts → row ≡ get_or parts p [] → joined parts ≡ all → IsListedIn (tell row) (tell all)
  part_listed parts p row all within is same = middle_listed all (joined (take p parts)) row (joined (drop (p + 1) parts)) (sym same ∙ joined_split parts p row within is)

  pub one_listed : (row : List Element) (j : ℕ) (e : Element) → j < length row → e ≡ get_or row j e → IsListedIn (tell (e ∷ [])) (tell row)
  one_listed row j e within is = middle_listed row (take j row) (e ∷ []) (drop (j + 1) row) (split_at row j e within is ∙ sym (append_assoc (take j row) (e ∷ []) (drop (j + 1) row)))

pub operations_of_one : (e : Element) (row : List Element) → IsListedIn (insertions_in (e ∷ [])) (insertions_in row) → IsListedIn (deletions_in (e ∷ [])) (deletions_in row) → IsListedIn (operations_in (e ∷ [])) (operations_in row)
operations_of_one e row first second op h = elim (Contains-append_cases (insertions_in (e ∷ [])) (deletions_in (e ∷ [])) op h) [
  | inl a ↦ Contains-append_left (insertions_in row) (deletions_in row) op (first op a)
  | inr b ↦ Contains-append_right (insertions_in row) (deletions_in row) op (second op b)
]

-- an element that stands among others
pub element_listed : (all : List Element) (e : Element) → Contains all e → IsListedIn (operations_in (e ∷ [])) (operations_in all)
element_listed all e h =
    let is = sym h.2 in
    let here : e ≡ get_or all h.0 e = is in
    operations_of_one e all (one_listed insertions_in insertions-append all h.0 e h.1 here) (one_listed deletions_in deletions-append all h.0 e h.1 here)

-- ---- insertions that are held, one after the other
pub held_next : (u v : OperationSet) (row : List Element) (j : ℕ) (e : Element) → j < length row → e ≡ get_or row j e → IsPartOf u v → All (Holds u) (insertions_in (take j row)) → Holds v (insertion_of e)
    → All (Holds v) (insertions_in (take (j + 1) row))
held_next u v row j e within is keeps done own =
    subst (All (Holds v)) (sym (ap insertions_in (take_push row j e within is) ∙ insertions-append (take j row) (e ∷ [])))
    (All-append (Holds v) (insertions_in (take j row)) (insertion_of e ∷ []) (λ k d low. keeps (get_or (insertions_in (take j row)) k d) (done k d low)) (All-cons (Holds v) (insertion_of e) [] own (All-nil (Holds v))))

pub held_passed : (u : OperationSet) (row : List Element) (j n : ℕ) → All (Holds u) (insertions_in (take j row)) → All (Holds u) (insertions_in (take n (rest_from row j))) → All (Holds u) (insertions_in (take (j + n) row))
held_passed u row j n front behind =
    subst (All (Holds u)) (sym (ap insertions_in (take_behind row j n) ∙ insertions-append (take j row) (take n (rest_from row j))))
    (All-append (Holds u) (insertions_in (take j row)) (insertions_in (take n (rest_from row j))) front behind)

-- ---- hidden elements

pub erased_more : (u v : OperationSet) (e : Element) → v.ins ≡ u.ins → IsPartOf u v → IsErasedIn u e → IsErasedIn v e
erased_more u v e same part h hidden there = part (Erase e.id) (h hidden (sym (ap (λ (m : map.FinMap id_cmp Node). map.contains_key m e.id) same) ∙ there))

-- of elements of one tree, of which one was taken
pub erased_with : (t u v : OperationSet) (e : Element) → Contains (elements t) e → IsPartOf u v → ((id : Identifier) → map.contains_key v.ins id ≡ true → (map.contains_key u.ins id ≡ true) ⊎ (id ≡ e.id))
    → IsErasedIn v e → All (IsErasedIn u) (elements t) → All (IsErasedIn v) (elements t)
erased_with t u v e at part no_other own all k d within hidden there =
    let x = get_or (elements t) k d in
    elim (no_other x.id there) [
      | inl old ↦ part (Erase x.id) (all k d within hidden old)
      | inr same ↦
          let marked = sym (hidden_is t x (k, within, get_or_default (elements t) k x d within)) ∙ hidden in
          let own_hidden = hidden_is t e at ∙ ap (is_erased t) (sym same) ∙ marked in
          subst (λ id. set.contains v.del id ≡ true) (sym same) (own own_hidden (subst (λ id. map.contains_key v.ins id ≡ true) same there))
    ]
  where
    hidden_is : (t : OperationSet) (y : Element) → Contains (elements t) y → y.hidden ≡ is_erased t y.id
    hidden_is t y at =
        let f = element_at t at.0 y (slice_get-get_or (elements t) at.0 y at.1 ∙ ap (λ (z : Element). Some z) at.2) in
        sym (ap (λ (z : Element). z.hidden) f.1.1) ∙ ap (λ (z : Element). is_erased t z.id) f.1.1

-- their deletions are held with their insertions
pub deletions_held : (u : OperationSet) (row : List Element) → All (Holds u) (insertions_in row) → All (IsErasedIn u) row → All (Holds u) (deletions_in row)
deletions_held u [] held erased = All-nil (Holds u)
deletions_held u (e ∷ row) held erased =
    by e.hidden refl (deletions_held u row (All-tail (Holds u) (insertion_of e) (insertions_in row) held) (All-tail (IsErasedIn u) e row erased))
  where
    by : (b : Bool) → e.hidden ≡ b → All (Holds u) (deletions_in row) → All (Holds u) (each Erase (each (λ (x : Element). x.id) (cond b (e ∷ filter (λ x. x.hidden) row) (filter (λ x. x.hidden) row))))
    by true is rest =
        All-cons (Holds u) (Erase e.id) (deletions_in row)
        (All-head (IsErasedIn u) e row erased is (ap is_some (All-head (Holds u) (insertion_of e) (insertions_in row) held))) rest
    by false is rest = rest

pub operations_held : (u : OperationSet) (row : List Element) → All (Holds u) (insertions_in row) → All (IsErasedIn u) row → All (Holds u) (operations_in row)
operations_held u row held erased = All-append (Holds u) (insertions_in row) (deletions_in row) held (deletions_held u row held erased)

-- a deletion of what is not inserted hides nothing
pub shows_still : (s u : OperationSet) (id : Identifier) → AllWellFormed s → map.contains_key s.ins id ≡ false → u.ins ≡ s.ins → IsGrownBy s (Erase id ∷ []) u → ShowsAll s u
shows_still s u id well none same grown x h =
    let b = and_parts (is_attached s x) (not (is_erased s x)) h in
    let at : is_attached u x ≡ is_attached s x = ap (λ (m : map.FinMap id_cmp Node). list_any (same_id x) (each (λ (e : Identifier × Node). e.0) (walk_to (map.len m) m Root))) same in
    λ i. (at ∙ b.0) i && (ap not (unmarked (is_erased u x) refl b.0 b.1)) i
  where
    named : Erase id ≡ Erase x → id ≡ x
    named e = cc

    unmarked : (k : Bool) → is_erased u x ≡ k → is_attached s x ≡ true → not (is_erased s x) ≡ true → is_erased u x ≡ false
    unmarked false e at free = e
    unmarked true e at free = elim (grown.of_list (Erase x) e) [
      | inl old ↦ absurd (true≢false (sym free ∙ ap not old))
      | inr new ↦ absurd (true≢false (sym (walked_inserted s x at) ∙ ap (map.contains_key s.ins) (sym (named (only_listed (Erase id) (Erase x) new))) ∙ none))
    ]

-- an element inserts its own identifier alone
pub inserted_by : (s u : OperationSet) (e : Element) → IsGrownBy s (operations_in (e ∷ [])) u → (id : Identifier) → map.contains_key u.ins id ≡ true → (map.contains_key s.ins id ≡ true) ⊎ (id ≡ e.id)
inserted_by s u e grown id at = by (map.get u.ins id) refl at
  where
    named : (n : Node) → insertion_of e ≡ Insert id n.parent n.ch → id ≡ e.id
    named n is = cc

    no_deletion : (ids : List Identifier) (n : Node) → Contains (each Erase ids) (Insert id n.parent n.ch) → ⊥
    no_deletion ids n h = at_place ids h.0 h.1 h.2
      where
        at_place : (ids : List Identifier) (k : ℕ) → k < length (each Erase ids) → get_or (each Erase ids) k (Insert id n.parent n.ch) ≡ Insert id n.parent n.ch → ⊥
        at_place [] k low e = absurd (omega (arith, low))
        at_place (x ∷ ids) zero low e = cc
        at_place (x ∷ ids) (suc k) low e = at_place ids k (omega (arith, low)) e

    by : (o : Option Node) → map.get u.ins id ≡ o → is_some o ≡ true → (map.contains_key s.ins id ≡ true) ⊎ (id ≡ e.id)
    by None is some = absurd (true≢false (sym some))
    by (Some n) is some = elim (grown.of_list (Insert id n.parent n.ch) is) [
      | inl old ↦ inl (ap is_some old)
      | inr new ↦ elim (Contains-append_cases (insertion_of e ∷ []) (deletions_in (e ∷ [])) (Insert id n.parent n.ch) new) [
        | inl own ↦ inr (named n (only_listed (insertion_of e) (Insert id n.parent n.ch) own))
        | inr gone ↦ absurd (no_deletion (hidden_ids (e ∷ [])) n gone)
      ]
    ]

pub listed_front : (e : Element) → IsListedIn (insertion_of e ∷ []) (operations_in (e ∷ []))
listed_front e = Contains-append_left (insertion_of e ∷ []) (deletions_in (e ∷ []))

pub listed_behind : (e : Element) → IsListedIn (deletions_in (e ∷ [])) (operations_in (e ∷ []))
listed_behind e = Contains-append_right (insertion_of e ∷ []) (deletions_in (e ∷ []))

-- ---- what is kept, of what is placed and what waits

pub inserted_first : (t h : OperationSet) (id : Identifier) → map.contains_key t.ins id ≡ true → map.contains_key (union t h).ins id ≡ true
inserted_first t h id at = ap is_some (get-union t h id) ∙ by (map.get t.ins id) at
  where
    by : (o : Option Node) → is_some o ≡ true → is_some (unwrap_first o (map.get h.ins id)) ≡ true
    by None e = absurd (true≢false (sym e))
    by (Some n) e = refl

pub inserted_second : (t h : OperationSet) (id : Identifier) → map.contains_key t.ins id ≡ false → map.contains_key (union t h).ins id ≡ map.contains_key h.ins id
inserted_second t h id none = ap is_some (get-union t h id) ∙ by (map.get t.ins id) none
  where
    by : (o : Option Node) → is_some o ≡ false → is_some (unwrap_first o (map.get h.ins id)) ≡ is_some (map.get h.ins id)
    by None e = refl
    by (Some n) e = absurd (true≢false e)

-- ---- one that was taken

pub taken_joins : (s : OperationSet) (op : OpView) (taken : Taken) → IsTaken s op taken → MayJoin s op
taken_joins s op Known h = Holds-may_join s op h
taken_joins s op (Placed n) h = h.0.joins
taken_joins s op Hidden h = h.0.joins
taken_joins s op Held h = h.0.joins

pub held_with : (s u : OperationSet) (op : OpView) → MayJoin s op → u ≡ with_operation s op → Holds u op
held_with s u op may is = subst (λ x. Holds x op) (sym is) ((Holds-with_operation s op op may).1 (inl refl))
