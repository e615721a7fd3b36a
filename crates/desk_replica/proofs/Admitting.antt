-- What is answered to a new operation.
use Rattle.std.proofs.Common.{◌≡◌, ◌≤◌, ◌+◌, ◌-◌, ℕ, Bool, true, false, cond, length, Option, None, Some, sym, ap, subst, ◌∙◌, refl, true≢false, is_some, arith}
use Rattle.std.proofs.lemmas.List.{length-map}
use Rattle.std.specs.Prelude.{◌||◌, OnErr, Result, Ok, Err}
use Rattle.std.specs.FinMap as map
use Rattle.std.specs.FinSet as set
use Rattle.bg_types.specs.Identifier.{Identifier, same_id}
use Rattle.bg_types.specs.WellFormed.{IsWellFormed}
use Rattle.bg_types.specs.OperationSet.{Node, OperationSet, AllWellFormed, union, with_operation}
use Rattle.bg_types.specs.declared.op.Place.{Place}
use Rattle.bg_types.specs.declared.op.Place.TheVariants.{Root, After}
use Rattle.bg_types.specs.declared.op.OpView.{OpView}
use Rattle.bg_types.specs.declared.op.OpView.TheVariants.{Insert, Erase}
use Rattle.bg_types.proofs.Interface.{id_cmp-total, same_id-is, same_id-itself, same_sets}
use Rattle.rga_tree.specs.Walk.{walk}
use Rattle.rga_tree.specs.Attached.{IsAttached}
use Rattle.rga_tree.specs.Tree.{stands_in, IsTree, OnlyErasesPlaced}
use Rattle.rga_tree.specs.Elements.{elements}
use Rattle.rga_tree.proofs.Interface.{IsAttached-more, IsReached, IsAttached-child, AllWellFormed-with}
use Rattle.pending_ops.specs.Waiting.{Waiting, IsNew}
use Rattle.desk_replica.specs.Placement.{IsPaid, IsParted, IsSettled, MayPlace, reaches_in, whole}
use Rattle.desk_replica.specs.Reply.{IsAdmitted, IsPlacing, IsHiding, IsTaken, attached_count}
use Rattle.desk_replica.specs.declared.answer.Taken.TheVariants.{Placed}
use Rattle.desk_replica.proofs.Whole.{some_not, contains-union}
use Rattle.desk_replica.proofs.Settled.{walk-whole, placed_attached, attached_placed}
use Rattle.desk_replica.proofs.FirstTurn.{nothing_kept, not_held, union-held}

-- a sequence keeps these of its content
pub record IsContent (t : OperationSet) : Type 0 where
  pub well : AllWellFormed t
  pub tree : IsTree t
  pub only : OnlyErasesPlaced t

pub length-elements : (t : OperationSet) → length (elements t) ≡ attached_count t
length-elements t = length-map (walk t Root) _

pub count-whole : (t : OperationSet) (w : Waiting) → IsContent t → IsSettled t w → attached_count (whole t w) ≡ attached_count t
count-whole t w c d = ap length (walk-whole t w.held c.well d.well_formed c.tree c.only d.parted)

-- the insertion of an element below one that is placed is attached
pub attached_below : (t : OperationSet) (w : Waiting) (id : Identifier) (parent : Place) (ch : ℕ) → IsContent t → IsSettled t w → map.get (whole t w).ins id ≡ None → stands_in t parent ≡ true
    → IsAttached (with_operation (whole t w) (Insert id parent ch)).ins id
attached_below t w id parent ch c d none stands =
    let s = whole t w in
    let n : Node = record { parent = parent; ch = ch } in
    let more : (q : Identifier) (m : Node) → map.get s.ins q ≡ Some m → map.get (map.insert s.ins id n) q ≡ Some m =
    λ q m e. map.get-insert id_cmp-total s.ins id n q ∙ kept q m (same_id q id) refl e in
    IsAttached-child (map.insert s.ins id n) id n (map.get-insert id_cmp-total s.ins id n id ∙ ap (λ b. cond b (Some n) (map.get s.ins id)) (same_id-itself id)) (reached parent stands more)
  where
    kept : (q : Identifier) (m : Node) (b : Bool) → same_id q id ≡ b → map.get (whole t w).ins q ≡ Some m → cond b (Some (record { parent = parent; ch = ch })) (map.get (whole t w).ins q) ≡ Some m
    kept q m true same e = some_not m _ (sym none ∙ ap (map.get (whole t w).ins) (sym (same_id-is q id same)) ∙ e)
    kept q m false same e = e

    reached : (p : Place) → stands_in t p ≡ true
        → ((q : Identifier) (m : Node) → map.get (whole t w).ins q ≡ Some m → map.get (map.insert (whole t w).ins id (record { parent = parent; ch = ch })) q ≡ Some m)
        → IsReached (map.insert (whole t w).ins id (record { parent = parent; ch = ch })) p
    reached Root h more = tt
    reached (After a) h more = IsAttached-more (whole t w).ins (map.insert (whole t w).ins id (record { parent = parent; ch = ch })) more (placed_attached t w.held c.well d.well_formed c.tree c.only d.parted a h)

pub placed_answer : (t : OperationSet) (w : Waiting) (op : OpView) (u : OperationSet) (v : Waiting) (before after : ℕ)
    → IsContent t → IsSettled t w → IsAdmitted (whole t w) op → MayPlace t op → IsContent u → IsSettled u v → whole u v ≡ with_operation (whole t w) op
    → before ≡ length (elements t) → after ≡ length (elements u) → before + 1 ≤ after → IsTaken (whole t w) op (Placed (after - before - 1))
placed_answer t w (Insert id parent ch) u v before after c d a may cu du same b e le = (
  a,
  attached_below t w id parent ch c d (nothing_kept (whole t w) id parent ch a.joins a.is_new) may.0,
  let n0 = count-whole t w c d in
      let n1 = count-whole u v cu du in
      let s1 = ap attached_count same in
      let l0 = length-elements t in
      let l1 = length-elements u in
      omega arith,
)
placed_answer t w (Erase target) u v before after c d a may cu du same b e le = absurd may

-- ---- payment in advance changes neither what is in the tree nor what waits

pub settled_as : (t u : OperationSet) (w v : Waiting) → u ≡ t → v.held ≡ w.held → v.released ≡ w.released → IsSettled t w → IsSettled u v
settled_as t u w v e eh er d = subst (λ x. IsSettled x v) (sym e) (record {
  parted = subst (λ h. IsParted t h (λ _. false)) (sym eh) d.parted;
  none_released = er ∙ d.none_released;
  well_formed = subst AllWellFormed (sym eh) d.well_formed;
})

pub whole_as : (t u : OperationSet) (w v : Waiting) → u ≡ t → v.held ≡ w.held → whole u v ≡ whole t w
whole_as t u w v e eh i = union (e i) (eh i)

-- more room pays for what was paid for
pub still_paid : (old new : ℕ) (w v : Waiting) (n m : ℕ) → old ≤ new → v ≡ w → m ≡ n → IsPaid old w n → IsPaid new v m
still_paid old new w v n m more e same p = record {
  placed = omega (arith, ap (λ (x : Waiting). map.len x.held.ins) e, more, same, p.placed);
  held = omega (arith, ap (λ (x : Waiting). x.room) e, same, p.held);
}

-- one that is held uses up one of what is paid for
pub held_paid : (placings : ℕ) (w v : Waiting) (op : OpView) (n : ℕ) → v.held ≡ with_operation w.held op → v.room ≡ w.room - 1 → IsPaid placings w (n + 1) → IsPaid placings v n
held_paid placings w v (Insert id parent ch) n held room p =
    let few = ap (λ (s : OperationSet). map.len s.ins) held ∙ map.len-insert id_cmp-total w.held.ins id (record { parent = parent; ch = ch }) in
    let le = at_most (map.contains_key w.held.ins id) (map.len w.held.ins) in
    record { placed = omega (arith, few, le, p.placed); held = omega (arith, room, p.held) }
  where
    at_most : (b : Bool) (k : ℕ) → cond b k (k + 1) ≤ k + 1
    at_most true k = omega arith
    at_most false k = omega arith
held_paid placings w v (Erase target) n held room p =
    let few = ap (λ (s : OperationSet). map.len s.ins) held in
    record { placed = omega (arith, few, p.placed); held = omega (arith, room, p.held) }

-- ---- a deletion of what is placed

set_or : (t h : OperationSet) (target : Identifier) → union (with_operation t (Erase target)) h ≡ with_operation (union t h) (Erase target)
set_or t h target =
    same_sets (union (with_operation t (Erase target)) h) (with_operation (union t h) (Erase target))
    (λ q. refl)
    (λ q. contains-union (with_operation t (Erase target)) h q ∙ ap (λ b. b || set.contains h.del q) (set.contains-insert id_cmp-total t.del target q)
    ∙ assoc (same_id q target) (set.contains t.del q) (set.contains h.del q) ∙ ap (λ b. same_id q target || b) (sym (contains-union t h q)) ∙ sym (set.contains-insert id_cmp-total (union t h).del target q))
  where
    assoc : (a b c : Bool) → ((a || b) || c) ≡ (a || (b || c))
    assoc true b c = refl
    assoc false b c = refl

pub hidden_whole : (t u : OperationSet) (w : Waiting) (target : Identifier) → u ≡ with_operation t (Erase target) → whole u w ≡ with_operation (whole t w) (Erase target)
hidden_whole t u w target e = ap (λ x. union x w.held) e ∙ set_or t w.held target

stands_same : (t : OperationSet) (target : Identifier) (p : Place) → stands_in (with_operation t (Erase target)) p ≡ stands_in t p
stands_same t target Root = refl
stands_same t target (After a) = refl

pub hidden_settled : (t u : OperationSet) (w : Waiting) (target : Identifier) → u ≡ with_operation t (Erase target) → IsSettled t w → IsSettled u w
hidden_settled t u w target e d = subst (λ x. IsSettled x w) (sym e) (record {
  parted = record {
    apart = d.parted.apart;
    stands = λ q n h r. absurd (true≢false (sym r));
    waits = λ q n h r. stands_same t target n.parent ∙ d.parted.waits q n h r;
    early = d.parted.early;
  };
  none_released = d.none_released;
  well_formed = d.well_formed;
})

-- ---- what waits

abbrev pub Waits : OperationSet → OpView → Type 0
Waits t op = reaches_in t op ≡ false

pub held_new : (t : OperationSet) (w : Waiting) (op : OpView) → IsAdmitted (whole t w) op → IsNew w.held op
held_new t w (Insert id parent ch) a = (not_held t w.held id (nothing_kept (whole t w) id parent ch a.joins a.is_new)).1
held_new t w (Erase target) a = by (set.contains w.held.del target) refl
  where
    or_last : (b c : Bool) → c ≡ true → (b || c) ≡ true
    or_last true c h = refl
    or_last false c h = h

    by : (b : Bool) → set.contains w.held.del target ≡ b → set.contains w.held.del target ≡ false
    by true e = absurd (a.is_new (contains-union t w.held target ∙ or_last (set.contains t.del target) (set.contains w.held.del target) e))
    by false e = e

pub held_whole : (t : OperationSet) (w v : Waiting) (op : OpView) → IsAdmitted (whole t w) op → v.held ≡ with_operation w.held op → whole t v ≡ with_operation (whole t w) op
held_whole t w v (Insert id parent ch) a e =
    ap (union t) e ∙ union-held t w.held id (record { parent = parent; ch = ch }) (not_held t w.held id (nothing_kept (whole t w) id parent ch a.joins a.is_new)).0
held_whole t w v (Erase target) a e = ap (union t) e ∙ same_sets (union t (with_operation w.held (Erase target))) (with_operation (union t w.held) (Erase target)) (λ q. refl)
    (λ q. contains-union t (with_operation w.held (Erase target)) q ∙ ap (λ b. set.contains t.del q || b) (set.contains-insert id_cmp-total w.held.del target q)
    ∙ swap (set.contains t.del q) (same_id q target) (set.contains w.held.del q) ∙ ap (λ b. same_id q target || b) (sym (contains-union t w.held q)) ∙ sym (set.contains-insert id_cmp-total (union t w.held).del target q))
  where
    swap : (a b c : Bool) → (a || (b || c)) ≡ (b || (a || c))
    swap true true c = refl
    swap true false c = refl
    swap false b c = refl

pub held_settled : (t : OperationSet) (w v : Waiting) (op : OpView) → IsSettled t w → IsAdmitted (whole t w) op → IsWellFormed op → Waits t op → v.held ≡ with_operation w.held op → v.released ≡ w.released → IsSettled t v
held_settled t w v (Insert id parent ch) d a is waits e r = record {
  parted = subst (λ h. IsParted t h (λ _. false)) (sym e) (record {
    apart = λ q k. map.get-insert id_cmp-total w.held.ins id (record { parent = parent; ch = ch }) q ∙ apart q (same_id q id) refl k;
    stands = λ q n h x. absurd (true≢false (sym x));
    waits = λ q n h x. waiting n (same_id q id) (map.get w.held.ins q) (sym (map.get-insert id_cmp-total w.held.ins id (record { parent = parent; ch = ch }) q) ∙ h) (λ k. d.parted.waits q n k refl);
    early = d.parted.early;
  });
  none_released = r ∙ d.none_released;
  well_formed = subst AllWellFormed (sym e) (AllWellFormed-with w.held (Insert id parent ch) d.well_formed is);
}
  where
    apart : (q : Identifier) (b : Bool) → same_id q id ≡ b → map.contains_key t.ins q ≡ true → cond b (Some (record { parent = parent; ch = ch })) (map.get w.held.ins q) ≡ None
    apart q true same k = absurd (true≢false (sym k ∙ ap is_some (ap (map.get t.ins) (same_id-is q id same) ∙ (not_held t w.held id (nothing_kept (whole t w) id parent ch a.joins a.is_new)).0)))
    apart q false same k = d.parted.apart q k

    waiting : (n : Node) (b : Bool) (o : Option Node) → cond b (Some (record { parent = parent; ch = ch })) o ≡ Some n → (o ≡ Some n → stands_in t n.parent ≡ false) → stands_in t n.parent ≡ false
    waiting n true o h f = let same : record { parent = parent; ch = ch } ≡ n = cc in subst (λ (m : Node). stands_in t m.parent ≡ false) same waits
    waiting n false o h f = f h
held_settled t w v (Erase target) d a is waits e r = record {
  parted = subst (λ h. IsParted t h (λ _. false)) (sym e) (record {
    apart = d.parted.apart;
    stands = λ q n h x. absurd (true≢false (sym x));
    waits = d.parted.waits;
    early = λ q k. set.contains-insert id_cmp-total w.held.del target q ∙ early q (same_id q target) refl k;
  });
  none_released = r ∙ d.none_released;
  well_formed = subst AllWellFormed (sym e) (AllWellFormed-with w.held (Erase target) d.well_formed is);
}
  where
    early : (q : Identifier) (b : Bool) → same_id q target ≡ b → map.contains_key t.ins q ≡ true → (b || set.contains w.held.del q) ≡ false
    early q true same k = absurd (true≢false (sym k ∙ ap (map.contains_key t.ins) (same_id-is q target same) ∙ waits))
    early q false same k = d.parted.early q k

-- it is not answered as placed or hidden
pub waits_answer : (t : OperationSet) (w : Waiting) (op : OpView) → IsContent t → IsSettled t w → IsAdmitted (whole t w) op → IsWellFormed op → Waits t op → (¬ (IsPlacing (whole t w) op)) × (¬ (IsHiding (whole t w) op))
waits_answer t w (Insert id parent ch) c d a is waits = (
  λ at.
      let op : OpView = Insert id parent ch in
      let v : Waiting = record { held = with_operation w.held op; released = w.released; listed = w.listed; room = 0 } in
      let dv = held_settled t w v op d a is waits refl refl in
      let same = held_whole t w v op a refl in
      let in_v : IsAttached (whole t v).ins id = subst (λ (s : OperationSet). IsAttached s.ins id) (sym same) at in
      let none = (not_held t w.held id (nothing_kept (whole t w) id parent ch a.joins a.is_new)).0 in
      true≢false (sym (attached_placed t v.held c.well dv.well_formed c.tree c.only dv.parted id in_v) ∙ ap is_some none),
  λ h. h,
)
waits_answer t w (Erase target) c d a is waits = (λ h. h, λ at. true≢false (sym (attached_placed t w.held c.well d.well_formed c.tree c.only d.parted target at) ∙ waits))

-- ---- by the kind of the operation

pub may_reach : (t : OperationSet) (w : Waiting) (id : Identifier) (parent : Place) (ch : ℕ) (op : OpView) → Insert id parent ch ≡ op → IsAdmitted (whole t w) op → reaches_in t op ≡ true → MayPlace t op
may_reach t w id parent ch op e = subst (λ o. IsAdmitted (whole t w) o → reaches_in t o ≡ true → MayPlace t o) e
    (λ a r. (r, ap is_some (not_held t w.held id (nothing_kept (whole t w) id parent ch a.joins a.is_new)).0))

pub hides : (t : OperationSet) (w : Waiting) (target : Identifier) (op : OpView) → Erase target ≡ op → IsContent t → IsSettled t w → reaches_in t op ≡ true → IsHiding (whole t w) op
hides t w target op e c d = subst (λ o. reaches_in t o ≡ true → IsHiding (whole t w) o) e (λ r. placed_attached t w.held c.well d.well_formed c.tree c.only d.parted target r)

pub target_there : (t : OperationSet) (target : Identifier) (op : OpView) → Erase target ≡ op → reaches_in t op ≡ true → map.contains_key t.ins target ≡ true
target_there t target op e = subst (λ o. reaches_in t o ≡ true → map.contains_key t.ins target ≡ true) e (λ r. r)

pub on_err : {A E : Type 0} (r : Result A E) (P : Type 0) → P → OnErr r P
on_err (Ok x) P p = tt
on_err (Err e) P p = p
