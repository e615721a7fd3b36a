-- Room for what is told, and what is asked of the calls that tell.
use Rattle.std.proofs.Common.{◌≡◌, ◌≤◌, ◌<◌, ◌+◌, ◌-◌, ℕ, zero, suc, Bool, true, false, cond, not, List, [], ◌∷◌, length, Option, None, Some, inl, inr, sym, ap, subst, ◌∙◌, refl, true≢false, is_some, arith, length-append}
use Rattle.std.proofs.lemmas.List.{length-map}
use Rattle.std.specs.Prelude.{◌||◌, Result, Ok, Err, MatchResult, OnOk, OnErr, IfErr, filter, ◌&&◌, ◌⊎◌}
use Rattle.std.specs.Option.{option_map_or}
use Rattle.std.proofs.lemmas.Bool.{and_parts}
use Rattle.std.specs.FinMap as map
use Rattle.std.specs.FinSet as set
use Rattle.bg_types.specs.Identifier.{Identifier, id_cmp}
use Rattle.bg_types.specs.OperationSet.{Node, OperationSet, AllWellFormed, Holds, MayJoin, size, with_operation}
use Rattle.bg_types.specs.declared.change.Change.{Change}
use Rattle.bg_types.specs.declared.op.Place.{Place}
use Rattle.bg_types.specs.declared.op.Place.TheVariants.{Root}
use Rattle.bg_types.specs.declared.op.OpView.{OpView}
use Rattle.bg_types.specs.declared.op.OpView.TheVariants.{Insert, Erase}
use Rattle.bg_types.proofs.Interface.{id_cmp-total, same_id-itself}
use Rattle.rga_tree.specs.Walk.{walk, walked_ids}
use Rattle.rga_tree.specs.Attached.{IsAttached, is_attached}
use Rattle.rga_tree.specs.Parts.{IsPartOf}
use Rattle.rga_tree.specs.TextOf.{is_erased}
use Rattle.rga_tree.specs.Elements.{with_element}
use Rattle.rga_tree.proofs.Interface.{Entry, IsDistinct-walked, is_attached-test, walk-sub_walk}
use Rattle.pending_ops.specs.Chains.{is_in}
use Rattle.pending_ops.specs.Waiting.{Waiting, follows, is_after}
use Rattle.pending_ops.specs.Below.{CountsBelow, IsBelow, IsChain}
use Rattle.pending_ops.proofs.Interface.{IsDistinct-apart}
use Rattle.desk_replica.specs.Desk.{Desk}
use Rattle.desk_replica.specs.Placement.{IsSettled, Places, whole}
use Rattle.desk_replica.specs.Reply.{IsAdmitted, IsHiding, IsRefused, IsTaken, attached_count}
use Rattle.desk_replica.specs.declared.answer.TakeFault.{TakeFault}
use Rattle.desk_replica.specs.declared.answer.TakeFault.TheVariants.{IdentifierReused, Full, Memory}
use Rattle.desk_replica.specs.declared.answer.Taken.{Taken}
use Rattle.desk_replica.specs.declared.answer.Taken.TheVariants.{Known, Placed, Hidden, Held}
use Rattle.desk_replica.specs.Listening.{HasRoom, HasRoomBelow, HasRoomFor, IsHeard, extended, told_count}
use Rattle.desk_replica.specs.Telling.{IsUntaken, ShowsAll, TellsAtMost, changes_of, is_shown, most_told, seen_count, waiting_count}
use Rattle.desk_replica.proofs.Admitting.{IsContent}
use Rattle.desk_replica.proofs.Bounds.{walk_within, walked_inserted, set_beside}
use Rattle.desk_replica.proofs.Loop.{none_ready}
use Rattle.desk_replica.proofs.Merges.{size-one_more}
use Rattle.desk_replica.proofs.Settled.{attached_placed, there, whole_formed}
use Rattle.desk_replica.proofs.Sizes.{len_set-map, len_set-set}
use Rattle.desk_replica.proofs.Listed.{late_kept}
use Rattle.desk_replica.specs.Merging.{is_deletion}
use Rattle.desk_replica.proofs.Steps.{attached_still}
use Rattle.desk_replica.proofs.Tellings.{Stays, part_with, tells_more, tells_nothing}
use Rattle.desk_replica.proofs.Whole.{contains-union, some_not}

-- ---- room

pub room_within : (told : Option (List Change)) (capacity m n : ℕ) → m ≤ n → HasRoom told capacity n → HasRoom told capacity m
room_within None capacity m n low h = tt
room_within (Some changes) capacity m n low h = omega (arith, low, h)

-- what is told takes room, and no other
pub room_left : (a b : Option (List Change)) (more : List Change) (old new k n : ℕ) → b ≡ extended a more → told_count b ≤ told_count a + k → old ≤ new → HasRoom a old (k + n) → HasRoom b new n
room_left None b more old new k n is few grows h = subst (λ o. HasRoom o new n) (sym is) tt
room_left (Some xs) b more old new k n is few grows h = by b is few
  where
    by : (b : Option (List Change)) → b ≡ extended (Some xs) more → told_count b ≤ length xs + k → HasRoom b new n
    by None is few = tt
    by (Some ys) is few = omega (arith, few, grows, h)

nothing_below : (s : OperationSet) (id q : Identifier) → set.contains (set.empty {R = id_cmp}) q ≡ true → IsBelow s id q
nothing_below s id q m = absurd (true≢false (sym m ∙ set.contains-empty id_cmp q))

-- for one change at least
pub room_one : (told : Option (List Change)) (capacity : ℕ) (s : OperationSet) (op : OpView) → HasRoomFor told capacity s op → HasRoom told capacity 1
room_one told capacity s (Insert id parent ch) h = room_within told capacity 1 (set.len (set.empty {R = id_cmp}) + 1) (omega arith) (h set.empty (nothing_below s id))
room_one told capacity s (Erase target) h = h

-- ---- room for an operation

follows_more : (s t : OperationSet) → ((q : Identifier) (n : Node) → map.get s.ins q ≡ Some n → map.get t.ins q ≡ Some n) → (p q : Identifier) → follows s p q ≡ true → follows t p q ≡ true
follows_more s t more p q h = by (map.get s.ins q) refl h
  where
    by : (o : Option Node) → map.get s.ins q ≡ o → option_map_or (λ (n : Node). is_after n.parent p) o false ≡ true → follows t p q ≡ true
    by None e h = absurd (true≢false (sym h))
    by (Some n) e h = ap (λ o. option_map_or (λ (m : Node). is_after m.parent p) o false) (more q n e) ∙ h

chain_more : (s t : OperationSet) → ((p q : Identifier) → follows s p q ≡ true → follows t p q ≡ true) → (q : Identifier) (ps : List Identifier) (id : Identifier) → IsChain s q ps id → IsChain t q ps id
chain_more s t more q [] id h = more id q h
chain_more s t more q (p ∷ ps) id h = (more p q h.0, chain_more s t more p ps id h.1)

pub below_more : (s t : OperationSet) → ((q : Identifier) (n : Node) → map.get s.ins q ≡ Some n → map.get t.ins q ≡ Some n) → (id q : Identifier) → IsBelow s id q → IsBelow t id q
below_more s t more id q h = (h.0, chain_more s t (follows_more s t more) q h.0 id h.1)

-- what stands below an identifier is inserted
below_held : (s : OperationSet) (id q : Identifier) (ps : List Identifier) → IsChain s q ps id → map.contains_key s.ins q ≡ true
below_held s id q ps h = by ps h
  where
    one : (o : Option Node) (p : Identifier) → option_map_or (λ (n : Node). is_after n.parent p) o false ≡ true → is_some o ≡ true
    one None p h = absurd (true≢false (sym h))
    one (Some n) p h = refl

    by : (ps : List Identifier) → IsChain s q ps id → is_some (map.get s.ins q) ≡ true
    by [] h = one (map.get s.ins q) id h
    by (p ∷ ps) h = one (map.get s.ins q) p h.0

pub count_within : (s : OperationSet) (id : Identifier) (n : ℕ) → CountsBelow s id n → n ≤ map.len s.ins
count_within s id n counts =
    let few = len_set-map counts.0 s.ins (λ q m. let b = (counts.1.0 q).0 m in below_held s id q b.0 b.1) in
    let all = counts.1.1 in
    omega (arith, few, all)

-- by the count of what waits below
pub room_counted : (told : Option (List Change)) (capacity : ℕ) (s : OperationSet) (op : OpView) (n : ℕ) → TellsAtMost s op n → HasRoom told capacity n → HasRoomFor told capacity s op
room_counted told capacity s (Insert id parent ch) n most h = λ below each.
    let counts = most.1 in
    let few = len_set-set below counts.0 (λ q m. (counts.1.0 q).1 (each q m)) in
    let all = counts.1.1 in
    let is = most.2 in
    room_within told capacity (set.len below + 1) n (omega (arith, few, all, is)) h
room_counted told capacity s (Erase target) n most h = subst (HasRoom told capacity) most h

module _ (told : Option (List Change)) (capacity : ℕ) (t : OperationSet) (w : Waiting) (d : IsSettled t w) where
  held_in : (q : Identifier) (n : Node) → map.get w.held.ins q ≡ Some n → map.get (whole t w).ins q ≡ Some n
  held_in q n e = late_kept t w d (Insert q n.parent n.ch) e

  -- by what all operations that are kept say of it
  pub room_whole : (op : OpView) → HasRoomFor told capacity (whole t w) op → HasRoomFor told capacity w.held op
  room_whole (Insert id parent ch) h = λ below each. h below (λ q m. below_more w.held (whole t w) held_in id q (each q m))
  room_whole (Erase target) h = h

  -- by how many insertions wait
  pub room_waiting : IsContent t → (op : OpView) → HasRoom told capacity (waiting_count (whole t w) + 1) → HasRoomFor told capacity w.held op
  room_waiting c (Insert id parent ch) h = λ below each.
      let s = whole t w in
      let formed = whole_formed t w.held c.well d.well_formed c.tree c.only d.parted in
      let ids = walked_ids s in
      let few = set_beside ids s.ins (IsDistinct-apart ids (IsDistinct-walked s formed)) (λ q m. walked_inserted s q m) below
      (λ q m.
      let b = each q m in
      let k = below_held w.held id q b.0 b.1 in
      let n = there (map.get w.held.ins q) k in
      (ap is_some (held_in q n.0 n.1), unattached s formed q (λ at. apart_from q n.0 n.1 (attached_placed t w.held c.well d.well_formed c.tree c.only d.parted q at)))) in
      let all = walk_within s formed in
      let l = length-map (walk s Root) (λ (e : Entry). e.0) in
      room_within told capacity (set.len below + 1) (waiting_count s + 1) (omega (arith, few, all, l)) h
    where
      apart_from : (q : Identifier) (n : Node) → map.get w.held.ins q ≡ Some n → map.contains_key t.ins q ≡ true → ⊥
      apart_from q n e k = some_not n ⊥ (sym (d.parted.apart q k) ∙ e)

      unattached : (s : OperationSet) → AllWellFormed s → (q : Identifier) → ¬ (IsAttached s.ins q) → is_in (walked_ids s) q ≡ false
      unattached s formed q apart = by (is_in (walked_ids s) q) refl
        where
          by : (b : Bool) → is_in (walked_ids s) q ≡ b → b ≡ false
          by true e = absurd (apart ((is_attached-test s formed q).0 e))
          by false e = refl
  room_waiting c (Erase target) h = room_within told capacity 1 (waiting_count (whole t w) + 1) (omega arith) h

-- once an insertion is placed and told, there is room for what it releases
pub room_released : (a b : Option (List Change)) (more : List Change) (old new : ℕ) (t : OperationSet) (w : Waiting) (op : OpView) (u : OperationSet) (v : Waiting) → IsSettled t w → Places t w op u v
    → b ≡ extended a more → told_count b ≤ told_count a + 1 → old ≤ new → HasRoomFor a old w.held op → HasRoomBelow b new v
room_released a b more old new t w (Insert id parent ch) u v d places is few grows h = record {
  before = places.rest;
  id = id;
  none_ready = none_ready places.rest (places.released ∙ d.none_released);
  releases = places.releases;
  room = λ below each.
      let all = h below (λ q m. below_more places.rest.held w.held (λ r n e. sym (ap (λ (x : OperationSet). map.get x.ins r) places.held) ∙ e) id q (each q m)) in
      room_left a b more old new 1 (set.len below) is few grows (room_within a old (1 + set.len below) (set.len below + 1) (omega arith) all);
}
room_released a b more old new t w (Erase target) u v d places is few grows h = absurd places

-- where there is room, none is spare
pub none_or_short : (spare : ℕ) (A : Type 0) → (A → spare ≡ 0) → (spare ≡ 0) ⊎ (¬ A)
none_or_short zero A h = inl refl
none_or_short (suc n) A h = inr (λ room. let none = h room in omega (arith, none))

-- ---- what is heard, one after the other

pub told_grows : (a b : Option (List Change)) (more : List Change) → b ≡ extended a more → told_count a ≤ told_count b
told_grows a b more is = by a (ap told_count is)
  where
    by : (a : Option (List Change)) → told_count b ≡ told_count (extended a more) → told_count a ≤ told_count b
    by None e = omega arith
    by (Some xs) e = let l = length-append xs more in omega (arith, l, e)

pub heard_nothing : (s t : OperationSet) (told more : Option (List Change)) (before after : ℕ) → AllWellFormed s → t ≡ s → more ≡ told → before ≤ after → IsHeard s t told more before after
heard_nothing s t told more before after well same still grows = record {
  tells = tells_nothing s t told more well same still;
  few = omega (arith, ap seen_count same, ap told_count still);
  capacity = grows;
}

pub heard_more : (s t u : OperationSet) (a b c : Option (List Change)) (k m n : ℕ) → IsHeard s t a b k m → IsHeard t u b c m n → Stays s t u → IsHeard s u a c k n
heard_more s t u a b c k m n first second stays = record {
  tells = tells_more s t u a b c first.tells second.tells stays;
  few = omega (arith, first.few, second.few);
  capacity = omega (arith, first.capacity, second.capacity);
}

-- ---- at most one change for each insertion that was attached and each deletion

-- a part has no more that is attached
attached_more : (s t : OperationSet) → AllWellFormed t → IsPartOf s t → attached_count s ≤ attached_count t
attached_more s t well part = let e = ap length (walk-sub_walk s t well part) in let f = fewer (λ x. is_attached s x.0) (walk t Root) in omega (arith, e, f)
  where
    fewer : (p : Entry → Bool) (es : List Entry) → length (filter p es) ≤ length es
    fewer p [] = omega arith
    fewer p (x ∷ es) = by (p x) (fewer p es)
      where
        by : (b : Bool) → length (filter p es) ≤ length es → length (cond b (x ∷ filter p es) (filter p es)) ≤ length (x ∷ es)
        by true h = omega (arith, h)
        by false h = omega (arith, h)

marks_more : (b : Bool) (n : ℕ) → n ≤ cond b n (n + 1)
marks_more true n = omega arith
marks_more false n = omega arith

more_marks : (s : OperationSet) (target : Identifier) → set.len s.del ≤ set.len (set.insert s.del target)
more_marks s target = let l = set.len-insert id_cmp-total s.del target in let m = marks_more (set.contains s.del target) (set.len s.del) in omega (arith, l, m)

-- a new deletion is one more
one_mark : (s : OperationSet) (target : Identifier) → ¬ (set.contains s.del target ≡ true) → set.len (set.insert s.del target) ≡ set.len s.del + 1
one_mark s target new = set.len-insert id_cmp-total s.del target ∙ by (set.contains s.del target) refl
  where
    by : (b : Bool) → set.contains s.del target ≡ b → cond b (set.len s.del) (set.len s.del + 1) ≡ set.len s.del + 1
    by true e = absurd (new e)
    by false e = refl

pub seen_taken : (s : OperationSet) (op : OpView) (taken : Taken) → AllWellFormed (with_operation s op) → IsPartOf s (with_operation s op) → IsTaken s op taken
    → most_told taken + seen_count s ≤ seen_count (with_operation s op)
seen_taken s (Insert id parent ch) Known well part h = let m = attached_more s (with_operation s (Insert id parent ch)) well part in omega (arith, m)
seen_taken s (Insert id parent ch) (Placed n) well part h = let grown = h.2 in omega (arith, grown)
seen_taken s (Insert id parent ch) Hidden well part h = absurd h.1
seen_taken s (Insert id parent ch) Held well part h = let m = attached_more s (with_operation s (Insert id parent ch)) well part in omega (arith, m)
seen_taken s (Erase target) Known well part h = let m = more_marks s target in omega (arith, m)
seen_taken s (Erase target) (Placed n) well part h = absurd h.1
seen_taken s (Erase target) Hidden well part h = let m = one_mark s target h.0.is_new in omega (arith, m)
seen_taken s (Erase target) Held well part h = let m = more_marks s target in omega (arith, m)

pub size_taken : {A E : Type 0} (answer : Result A E) (old new : Desk) (op : OpView) → OnOk answer (new.set ≡ with_operation old.set op) → OnErr answer (new ≡ old) → size new.set ≤ size old.set + 1
size_taken (Ok taken) old new op ok err = let one = size-one_more old.set op in omega (arith, one, ap size ok)
size_taken (Err fault) old new op ok err = omega (arith, ap (λ (d : Desk). size d.set) err)

-- beyond one change, what one operation tells is of insertions that wait no more
pub few_told : (s t : OperationSet) (a b : Option (List Change)) (k m : ℕ) → IsHeard s t a b k m → size t ≤ size s + 1 → told_count b + waiting_count t ≤ told_count a + waiting_count s + 1
few_told s t a b k m heard one = let last = walk_within t heard.tells.are_steps.well_formed in omega (arith, heard.few, one, last)

-- where an operation is spare and there is room, memory is not short
pub paid_for : {A : Type 0} (answer : Result A TakeFault) (told : Option (List Change)) (capacity n spare : ℕ) → HasRoom told capacity n → 0 < spare
    → IfErr answer (λ fault. fault ≡ Memory → (spare ≡ 0) ⊎ (¬ (HasRoom told capacity n))) → IfErr answer (λ fault. ¬ (fault ≡ Memory))
paid_for (Ok taken) told capacity n spare room some short = tt
paid_for (Err fault) told capacity n spare room some short = λ memory. neither (short memory)
  where
    neither : (spare ≡ 0) ⊎ (¬ (HasRoom told capacity n)) → ⊥
    neither (inl none) = omega (arith, none, some)
    neither (inr full) = full room

-- what a merge may still tell
pub room_to_the_end : (s t u : OperationSet) (a b : Option (List Change)) (k m : ℕ) → AllWellFormed s → IsHeard s u a b k m → size u < size s + size t → HasRoom a k (size t + waiting_count s)
    → HasRoom a k (told_count b - told_count a + waiting_count u + 1)
room_to_the_end s t u a b k m well heard short room =
    let first = walk_within s well in
    let last = walk_within u heard.tells.are_steps.well_formed in
    let grows = told_grows a b (changes_of u (is_shown s) heard.tells.steps) heard.tells.appended in
    room_within a k (told_count b - told_count a + waiting_count u + 1) (size t + waiting_count s) (omega (arith, heard.few, short, first, last, grows)) room

-- a placed element is there
pub there_now : (t u : OperationSet) (id : Identifier) (parent : Place) (ch : ℕ) (hidden : Bool) → u ≡ with_element t (record { id = id; parent = parent; ch = ch; hidden = hidden }) → map.contains_key u.ins id ≡ true
there_now t u id parent ch hidden is = ap (λ (x : OperationSet). map.contains_key x.ins id) is ∙ by hidden
  where
    n : Node
    n = record { parent = parent; ch = ch }

    put_in : map.contains_key (map.insert t.ins id n) id ≡ true
    put_in = ap is_some (map.get-insert id_cmp-total t.ins id n id ∙ ap (λ b. cond b (Some n) (map.get t.ins id)) (same_id-itself id))

    by : (b : Bool) → map.contains_key (with_element t (record { id = id; parent = parent; ch = ch; hidden = b })).ins id ≡ true
    by true = put_in
    by false = put_in

-- what a new deletion names is visible
pub still_visible : (t : OperationSet) (w : Waiting) (target : Identifier) (op : OpView) → Erase target ≡ op → IsAdmitted (whole t w) op → is_erased t target ≡ false
still_visible t w target op is a = by (set.contains t.del target) refl
  where
    new : ¬ (Holds (whole t w) (Erase target))
    new = (subst (IsAdmitted (whole t w)) (sym is) a).is_new

    by : (b : Bool) → set.contains t.del target ≡ b → b ≡ false
    by true e = absurd (new (contains-union t w.held target ∙ ap (λ c. c || set.contains w.held.del target) e))
    by false e = refl

pub no_hiding : (s : OperationSet) (id : Identifier) (parent : Place) (ch : ℕ) (op : OpView) → Insert id parent ch ≡ op → ¬ (IsHiding s op)
no_hiding s id parent ch op is = subst (λ o. ¬ (IsHiding s o)) is (λ h. h)

-- an insertion hides nothing
pub shows_inserted : (s t : OperationSet) (op : OpView) → AllWellFormed t → MayJoin s op → is_deletion op ≡ false → t ≡ with_operation s op → ShowsAll s t
shows_inserted s t (Insert id parent ch) well may kind is x h =
    let b = and_parts (is_attached s x) (not (is_erased s x)) h in
    λ i. attached_still s t well (part_with s t (Insert id parent ch) may is) x b.0 i && (ap (λ (r : OperationSet). not (is_erased r x)) is ∙ b.1) i
shows_inserted s t (Erase target) well may kind is x h = absurd (true≢false kind)

-- where nobody keeps what is told, there is room for all
pub room_untold : (capacity : ℕ) (s : OperationSet) (op : OpView) → HasRoomFor None capacity s op
room_untold capacity s (Insert id parent ch) = λ below each. tt
room_untold capacity s (Erase target) = tt

-- so that memory meets only what is to be placed or held
pub answer_untold : (r : Result Taken TakeFault) (s : OperationSet) (op : OpView) (capacity : ℕ) (A : Type 0) → MatchResult r (IsTaken s op) (IsUntaken s op)
    → IfErr r (λ fault. fault ≡ Memory → HasRoomFor None capacity s op → A × (¬ (IsHiding s op))) → MatchResult r (IsTaken s op) (IsRefused s op)
answer_untold (Ok taken) s op capacity A h m = h
answer_untold (Err IdentifierReused) s op capacity A h m = h
answer_untold (Err Full) s op capacity A h m = h
answer_untold (Err Memory) s op capacity A h m = (h, (m refl (room_untold capacity s op)).1)

pub unpaid_untold : (r : Result Taken TakeFault) (s : OperationSet) (op : OpView) (capacity : ℕ) (A B : Type 0) → IfErr r (λ fault. fault ≡ Memory → HasRoomFor None capacity s op → A × B) → IfErr r (λ fault. fault ≡ Memory → A)
unpaid_untold (Ok taken) s op capacity A B m = tt
unpaid_untold (Err fault) s op capacity A B m = λ is. (m is (room_untold capacity s op)).0
