-- The walk from the root lists the attached identifiers and nothing else.
use Rattle.std.proofs.Common.{◌≡◌, ℕ, zero, suc, ◌<◌, length, ◌⊎◌, inl, inr, Bool, true, false, cond, ◌||◌, List, [], ◌∷◌, Some, refl, sym, ap, subst, ◌∙◌, arith}
use Rattle.std.specs.Prelude.{filter, Contains, slice_index_or}
use Rattle.std.specs.List.{AllByRecursion, flat_map}
use Rattle.std.specs.FinMap as map
use Rattle.bg_types.specs.Identifier.{Identifier, same_id}
use Rattle.bg_types.specs.OperationSet.{Node, OperationSet, AllWellFormed}
use Rattle.bg_types.specs.declared.op.Place.{Place}
use Rattle.bg_types.specs.declared.op.Place.TheVariants.{Root, After}
use Rattle.bg_types.proofs.Interface.{same_id-is, same_id-itself}
use Rattle.rga_tree.specs.Walk.{Insertions, same_place, children, walk_to, walk}
use Rattle.rga_tree.specs.Attached.{IsAttached}
use Rattle.rga_tree.specs.Attached.IsAttached.{below_root, below}
use Rattle.rga_tree.proofs.WalkAmong.{Entry, same_is, all_append}
use Rattle.rga_tree.proofs.Entries.{entries_of, all_entries, AreWellFounded-entries}
use Rattle.rga_tree.proofs.Preorder.{all_reverse}
use Rattle.rga_tree.proofs.Depth.{walk_to-among}
use Rattle.rga_tree.proofs.Listed.{IsIn, IsIn-reverse, IsIn-filter, IsIn-found, is_listed, listed-append, listed-flat_map, all_listed}
use Rattle.std.proofs.lemmas.Bool.{or_cases, or_left, or_right}

-- ---- what is walked is attached

-- the root, or an attached identifier
abbrev pub IsReached : Insertions → Place → Type 0
IsReached ins Root = Unit {0}
IsReached ins (After a) = IsAttached ins a

pub IsAttached-child : (ins : Insertions) (id : Identifier) (node : Node) → map.get ins id ≡ Some node → IsReached ins node.parent → IsAttached ins id
IsAttached-child ins id node is reached = by_parent node.parent is reached where
  by_parent : (p : Place) → map.get ins id ≡ Some (record { parent = p; ch = node.ch }) → IsReached ins p → IsAttached ins id
  by_parent Root is reached = below_root id node.ch is
  by_parent (After a) is reached = below id a node.ch is reached

pub all_passing : (P : Entry → Type 0) (p : Entry → Bool) (xs : List Entry) → AllByRecursion (λ e. p e ≡ true → P e) xs → AllByRecursion P (filter p xs)
all_passing P p [] h = tt
all_passing P p (x ∷ xs) h =
    let rest = all_passing P p xs h.1 in
    elim (p x) as (λ b. (b ≡ true → P x) → AllByRecursion P (cond b (x ∷ filter p xs) (filter p xs))) [ true ↦ λ f. (f refl, rest) | false ↦ λ _. rest ] h.0

-- what holds of each insertion with this parent holds of each child
pub all_children : (s : OperationSet) (q : Place) (P : Entry → Type 0) → ((e : Entry) → map.get s.ins e.0 ≡ Some e.1 → e.1.parent ≡ q → P e) → AllByRecursion P (children s.ins q)
all_children s q P f =
    all_reverse P (filter (λ e. same_place e.1.parent q) (entries_of s))
    (all_passing P (λ e. same_place e.1.parent q) (entries_of s)
    (all_entries s (λ e. same_place e.1.parent q ≡ true → P e) (λ e held at. f e held (same_is e.1.parent q at))))

pub all_flat_map : (P : Entry → Type 0) (f : Entry → List Entry) (xs : List Entry) → AllByRecursion (λ e. AllByRecursion P (f e)) xs → AllByRecursion P (flat_map f xs)
all_flat_map P f [] h = tt
all_flat_map P f (x ∷ xs) h = all_append P (f x) (flat_map f xs) h.0 (all_flat_map P f xs h.1)

pub all_weaker_by : (P Q : Entry → Type 0) (xs : List Entry) → ((e : Entry) → P e → Q e) → AllByRecursion P xs → AllByRecursion Q xs
all_weaker_by P Q [] f h = tt
all_weaker_by P Q (x ∷ xs) f h = (f x h.0, all_weaker_by P Q xs f h.1)

pub all_attached : (s : OperationSet) (depth : ℕ) (q : Place) → IsReached s.ins q → AllByRecursion (λ e. IsAttached s.ins e.0) (walk_to depth s.ins q)
all_attached s zero q reached = tt
all_attached s (suc depth) q reached =
    let P : Entry → Type 0 = λ e. IsAttached s.ins e.0 in
    all_flat_map P (λ e. e ∷ walk_to depth s.ins (After e.0)) (children s.ins q)
    (all_weaker_by P (λ e. AllByRecursion P (e ∷ walk_to depth s.ins (After e.0))) (children s.ins q)
    (λ e at. (at, all_attached s depth (After e.0) at))
    (all_children s q P (λ e held at. IsAttached-child s.ins e.0 e.1 held (subst (IsReached s.ins) (sym at) reached))))

-- each entry of the walk is an insertion of the set
pub all_held : (s : OperationSet) (depth : ℕ) (q : Place) → AllByRecursion (λ e. map.get s.ins e.0 ≡ Some e.1) (walk_to depth s.ins q)
all_held s zero q = tt
all_held s (suc depth) q =
    let P : Entry → Type 0 = λ e. map.get s.ins e.0 ≡ Some e.1 in
    all_flat_map P (λ e. e ∷ walk_to depth s.ins (After e.0)) (children s.ins q)
    (all_weaker_by P (λ e. AllByRecursion P (e ∷ walk_to depth s.ins (After e.0))) (children s.ins q)
    (λ e held. (held, all_held s depth (After e.0)))
    (all_children s q P (λ e held at. held)))

held_in : (s : OperationSet) (es : List Entry) (k : ℕ) (e : Entry) → AllByRecursion (λ x. map.get s.ins x.0 ≡ Some x.1) es → k < length es → slice_index_or es k e ≡ e → map.get s.ins e.0 ≡ Some e.1
held_in s [] k e h within is = absurd (omega arith)
held_in s (x ∷ es) zero e h within is = subst (λ (y : Entry). map.get s.ins y.0 ≡ Some y.1) is h.0
held_in s (x ∷ es) (suc k) e h within is = held_in s es k e h.1 (omega arith) is

pub held_at : (s : OperationSet) (e : Entry) → Contains (walk s Root) e → map.get s.ins e.0 ≡ Some e.1
held_at s e at = held_in s (walk s Root) at.0 e (all_held s (map.len s.ins) Root) at.1 at.2

-- ---- what is attached is walked

pub same_place-itself : (p : Place) → same_place p p ≡ true
same_place-itself Root = refl
same_place-itself (After a) = same_id-itself a

pub IsIn-children : (ins : Insertions) (id : Identifier) (node : Node) → map.get ins id ≡ Some node → IsIn (id, node) (children ins node.parent)
IsIn-children ins id node held =
    IsIn-reverse (id, node) (filter (λ e. same_place e.1.parent node.parent) (map.entries ins))
    (IsIn-filter (id, node) (λ e. same_place e.1.parent node.parent) (map.entries ins) (same_place-itself node.parent)
    (IsIn-found id node (map.entries ins) (sym (map.get-entries ins id) ∙ held)))

-- a child is listed below its place
pub listed-child : (depth : ℕ) (ins : Insertions) (q : Place) (c : Entry) → IsIn c (children ins q) → is_listed c.0 (walk_to (suc depth) ins q) ≡ true
listed-child depth ins q c at =
    listed-flat_map c.0 (λ e. e ∷ walk_to depth ins (After e.0)) c (children ins q) at (or_left (same_id c.0 c.0) (is_listed c.0 (walk_to depth ins (After c.0))) (same_id-itself c.0))

either_listed : (b : Identifier) (xs ys : List Entry) (P Q : Type 0) → (P → is_listed b xs ≡ true) → (Q → is_listed b ys ≡ true) → P ⊎ Q → (is_listed b xs || is_listed b ys) ≡ true
either_listed b xs ys P Q f g (inl p) = or_left (is_listed b xs) (is_listed b ys) (f p)
either_listed b xs ys P Q f g (inr q) = or_right (is_listed b xs) (is_listed b ys) (g q)

listed-flat_maps : (a b : Identifier) (f g : Entry → List Entry) (xs : List Entry) → ((e : Entry) → is_listed a (f e) ≡ true → is_listed b (g e) ≡ true)
    → is_listed a (flat_map f xs) ≡ true → is_listed b (flat_map g xs) ≡ true
listed-flat_maps a b f g [] each h = absurd cc
listed-flat_maps a b f g (x ∷ xs) each h =
    listed-append b (g x) (flat_map g xs)
    ∙ either_listed b (g x) (flat_map g xs) (is_listed a (f x) ≡ true) (is_listed a (flat_map f xs) ≡ true) (each x) (listed-flat_maps a b f g xs each)
    (or_cases (is_listed a (f x)) (is_listed a (flat_map f xs)) (sym (listed-append a (f x) (flat_map f xs)) ∙ h))

either : (P Q R : Type 0) → (P → R) → (Q → R) → P ⊎ Q → R
either P Q R f g (inl p) = f p
either P Q R f g (inr q) = g q

-- and the children of what is listed are listed, one step deeper
pub listed-below : (depth : ℕ) (ins : Insertions) (q : Place) (a : Identifier) (c : Entry) → is_listed a (walk_to depth ins q) ≡ true → IsIn c (children ins (After a))
    → is_listed c.0 (walk_to (suc depth) ins q) ≡ true
listed-below zero ins q a c h at = absurd cc
listed-below (suc depth) ins q a c h at =
    let deeper : (e : Entry) → is_listed a (walk_to depth ins (After e.0)) ≡ true → is_listed c.0 (walk_to (suc depth) ins (After e.0)) ≡ true =
    λ e there. listed-below depth ins (After e.0) a c there at in
    let here : (e : Entry) → same_id a e.0 ≡ true → is_listed c.0 (walk_to (suc depth) ins (After e.0)) ≡ true =
    λ e same. listed-child depth ins (After e.0) c (subst (λ j. IsIn c (children ins (After j))) (same_id-is a e.0 same) at) in
    listed-flat_maps a c.0 (λ e. e ∷ walk_to depth ins (After e.0)) (λ e. e ∷ walk_to (suc depth) ins (After e.0)) (children ins q)
    (λ e h. or_right (same_id c.0 e.0) (is_listed c.0 (walk_to (suc depth) ins (After e.0)))
    (either (same_id a e.0 ≡ true) (is_listed a (walk_to depth ins (After e.0)) ≡ true) (is_listed c.0 (walk_to (suc depth) ins (After e.0)) ≡ true) (here e) (deeper e)
    (or_cases (same_id a e.0) (is_listed a (walk_to depth ins (After e.0))) h)))
    h

-- what is closed under children and has those of the root has all that is attached
attached_closed : (ins : Insertions) (w : List Entry)
    → ((id : Identifier) (ch : ℕ) → map.get ins id ≡ Some (record { parent = Root; ch = ch }) → is_listed id w ≡ true)
    → ((id parent : Identifier) (ch : ℕ) → map.get ins id ≡ Some (record { parent = After parent; ch = ch }) → is_listed parent w ≡ true → is_listed id w ≡ true)
    → {id : Identifier} → IsAttached ins id → is_listed id w ≡ true
attached_closed ins w first next (below_root id ch is) = first id ch is
attached_closed ins w first next (below id parent ch is up) = next id parent ch is (attached_closed ins w first next up)

pub listed-attached : (s : OperationSet) (id : Identifier) → AllWellFormed s → IsAttached s.ins id → is_listed id (walk s Root) ≡ true
listed-attached s id well at =
    let n = map.len s.ins in
    let founded = AreWellFounded-entries s well in
    let same : walk_to (suc n) s.ins Root ≡ walk s Root = walk_to-among s (suc n) Root (omega arith) founded ∙ sym (walk_to-among s n Root (omega arith) founded) in
    attached_closed s.ins (walk s Root)
    (λ id ch is. ap (is_listed id) (sym same) ∙ listed-child n s.ins Root (id, record { parent = Root; ch = ch }) (IsIn-children s.ins id (record { parent = Root; ch = ch }) is))
    (λ id parent ch is up. ap (is_listed id) (sym same) ∙ listed-below n s.ins Root parent (id, record { parent = After parent; ch = ch }) up (IsIn-children s.ins id (record { parent = After parent; ch = ch }) is))
    at

pub attached-listed : (s : OperationSet) (id : Identifier) → is_listed id (walk s Root) ≡ true → IsAttached s.ins id
attached-listed s id h = all_listed (IsAttached s.ins) (walk s Root) id (all_attached s (map.len s.ins) Root tt) h
