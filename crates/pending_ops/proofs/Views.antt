-- What the tables of a store say of the operations that it holds.
use Rattle.std.proofs.Common.{◌≡◌, Bool, true, false, not, ℕ, cond, ◌&&◌, ◌||◌, List, [], ◌∷◌, Option, None, Some, sym, ap, subst, ◌∙◌, refl, true≢false, is_some}
use Rattle.std.specs.Option.{option_map, option_map_or}
use Rattle.std.specs.FinMap as map
use Rattle.std.specs.FinSet as set
use Rattle.bg_types.specs.Identifier.{Identifier, id_cmp, same_id}
use Rattle.bg_types.specs.OperationSet.{Node, OperationSet}
use Rattle.bg_types.specs.declared.op.OpView.TheVariants.{Insert}
use Rattle.bg_types.proofs.Interface.{id_cmp-total, id_cmp-exact}
use Rattle.pending_ops.specs.declared.chains.Slot.{Slot}
use Rattle.pending_ops.specs.Waiting.{follows, is_after}
use Rattle.pending_ops.specs.Chains.{AreLinked, IsChainOf, Links, first_in, insertions_of, is_in, names, node_in, nodes_of, slot_in, waiting_of}
use Rattle.pending_ops.proofs.Tables.{same_id-equivalence, is_in-updated, id_eq, is_in-here}
use Rattle.std.specs.List.{list_any}

pub get-insertions_of : (es : List (Identifier × Slot)) (q : Identifier) → map.get (insertions_of es) q ≡ option_map node_in (slot_in es q)
get-insertions_of es q = map.get-from_entries id_cmp-total (nodes_of es) q ∙ found es q
  where
    found : (es : List (Identifier × Slot)) (q : Identifier) → map.find id_cmp q (nodes_of es) ≡ option_map node_in (slot_in es q)
    found [] q = refl
    found (x ∷ es) q =
        elim (same_id q x.0) as (λ b. cond b (Some (node_in x.1)) (map.find id_cmp q (nodes_of es)) ≡ option_map node_in (cond b (Some x.1) (slot_in es q))) [ true ↦ refl | false ↦ found es q ]

after_mapped : (o : Option Slot) (p : Identifier) → option_map_or (λ (n : Node). is_after n.parent p) (option_map node_in o) false ≡ option_map_or (λ (s : Slot). is_after s.parent p) o false
after_mapped None p = refl
after_mapped (Some s) p = refl

-- to follow in the set is to name the parent in the slot
pub follows-insertions_of : (slots : List (Identifier × Slot)) (s : OperationSet) → s.ins ≡ insertions_of slots → (p q : Identifier) → follows s p q ≡ names (slot_in slots) p q
follows-insertions_of slots s ins p q =
    ap (λ m. option_map_or (λ (n : Node). is_after n.parent p) (map.get m q) false) ins
    ∙ ap (λ o. option_map_or (λ (n : Node). is_after n.parent p) o false) (get-insertions_of slots q) ∙ after_mapped (slot_in slots q) p

pub follows-names : (slots : List (Identifier × Slot)) (released erased : List Identifier) (room : ℕ) (p q : Identifier)
    → follows (waiting_of slots released erased room).held p q ≡ names (slot_in slots) p q
follows-names slots released erased room p q = follows-insertions_of slots (waiting_of slots released erased room).held refl p q

pub contains-from_list : (xs : List Identifier) (q : Identifier) → set.contains (set.from_list {R = id_cmp} xs) q ≡ is_in xs q
contains-from_list xs q = set.contains-from_list id_cmp-total xs q

-- one more, or one less, in a set of identifiers
pub from_list-inserted : (xs ys : List Identifier) (id : Identifier) → ((q : Identifier) → list_any (id_eq q) ys ≡ cond (id_eq id q) true (list_any (id_eq q) xs))
    → set.from_list {R = id_cmp} ys ≡ set.insert (set.from_list xs) id
from_list-inserted xs ys id h = set.same_set id_cmp-total id_cmp-exact _ _ (λ q.
    contains-from_list ys q ∙ is_in-updated xs ys id true h q ∙ as_or (same_id id q) (is_in xs q)
    ∙ (λ i. same_id-equivalence.symm id q i || sym (contains-from_list xs q) i) ∙ sym (set.contains-insert id_cmp-total (set.from_list xs) id q))
  where
    as_or : (a b : Bool) → cond a true b ≡ (a || b)
    as_or true b = refl
    as_or false b = refl

pub from_list-removed : (xs ys : List Identifier) (id : Identifier) → ((q : Identifier) → list_any (id_eq q) ys ≡ cond (id_eq id q) false (list_any (id_eq q) xs))
    → set.from_list {R = id_cmp} ys ≡ set.remove (set.from_list xs) id
from_list-removed xs ys id h = set.same_set id_cmp-total id_cmp-exact _ _ (λ q.
    contains-from_list ys q ∙ is_in-updated xs ys id false h q ∙ as_and (same_id id q) (is_in xs q)
    ∙ (λ i. not (same_id-equivalence.symm id q i) && sym (contains-from_list xs q) i) ∙ sym (set.contains-remove id_cmp-total (set.from_list xs) id q))
  where
    as_and : (a b : Bool) → cond a false b ≡ (not a && b)
    as_and true b = refl
    as_and false b = refl

option_map-cond : (b : Bool) (s : Slot) (o : Option Slot) → option_map node_in (cond b (Some s) o) ≡ cond b (Some (node_in s)) (option_map node_in o)
option_map-cond true s o = refl
option_map-cond false s o = refl

-- one more insertion
pub insertions_of-inserted : (slots newer : List (Identifier × Slot)) (id : Identifier) (s : Slot)
    → ((q : Identifier) → slot_in newer q ≡ cond (same_id id q) (Some s) (slot_in slots q)) → insertions_of newer ≡ map.insert (insertions_of slots) id (node_in s)
insertions_of-inserted slots newer id s put = map.same_map id_cmp-total id_cmp-exact _ _ (λ q.
    get-insertions_of newer q ∙ ap (option_map node_in) (put q) ∙ option_map-cond (same_id id q) s (slot_in slots q)
    ∙ (λ i. cond (same_id-equivalence.symm id q i) (Some (node_in s)) (sym (get-insertions_of slots q) i)) ∙ sym (map.get-insert id_cmp-total (insertions_of slots) id (node_in s) q))

option_map-none : (b : Bool) (o : Option Slot) → option_map node_in (cond b None o) ≡ cond b None (option_map node_in o)
option_map-none true o = refl
option_map-none false o = refl

-- one insertion less
pub insertions_of-removed : (slots newer : List (Identifier × Slot)) (id : Identifier)
    → ((q : Identifier) → slot_in newer q ≡ cond (same_id id q) None (slot_in slots q)) → insertions_of newer ≡ map.remove (insertions_of slots) id
insertions_of-removed slots newer id cut = map.same_map id_cmp-total id_cmp-exact _ _ (λ q.
    get-insertions_of newer q ∙ ap (option_map node_in) (cut q) ∙ option_map-none (same_id id q) (slot_in slots q)
    ∙ (λ i. cond (same_id-equivalence.symm id q i) None (sym (get-insertions_of slots q) i)) ∙ sym (map.get-remove id_cmp-total (insertions_of slots) id q))

no_slot : (o : Option Slot) → option_map node_in o ≡ None → o ≡ None
no_slot None e = refl
no_slot (Some s) e = let f : Some (node_in s) ≡ None = e in cc

pub slot_in-absent : (slots : List (Identifier × Slot)) (id : Identifier) → map.get (insertions_of slots) id ≡ None → slot_in slots id ≡ None
slot_in-absent slots id e = no_slot (slot_in slots id) (sym (get-insertions_of slots id) ∙ e)

told : (id : Identifier) (o : Option Slot) → option_map (λ (s : Slot). Insert id s.parent s.ch) o ≡ option_map (λ (n : Node). Insert id n.parent n.ch) (option_map node_in o)
told id None = refl
told id (Some s) = refl

-- what a slot holds is what the map has
pub insertion-get : (slots : List (Identifier × Slot)) (id : Identifier)
    → option_map (λ (s : Slot). Insert id s.parent s.ch) (slot_in slots id) ≡ option_map (λ (n : Node). Insert id n.parent n.ch) (map.get (insertions_of slots) id)
insertion-get slots id = told id (slot_in slots id) ∙ ap (option_map (λ (n : Node). Insert id n.parent n.ch)) (sym (get-insertions_of slots id))

pub some_there : {X : Type 0} (o : Option X) → is_some o ≡ true → (x : X) × (o ≡ Some x)
some_there None e = absurd (true≢false (sym e))
some_there (Some x) e = (x, refl)

-- a chain that starts somewhere leads to one that names the parent
pub first_names : (slot : Identifier → Option Slot) (p id : Identifier) (start : Option Identifier) → IsChainOf slot p start → start ≡ Some id → names slot p id ≡ true
first_names slot p id start c e = sym (c.exact id) ∙ leads c.members (subst (λ s. Links slot s c.members) e c.links)
  where
    leads : (xs : List Identifier) → Links slot (Some id) xs → is_in xs id ≡ true
    leads [] h = let f : Some id ≡ None = h in cc
    leads (x ∷ xs) h =
        let same : id ≡ x = let f : Some id ≡ Some x = h.0 in cc in
        ap (λ y. is_in (y ∷ xs) id) (sym same) ∙ is_in-here id xs

-- an identifier is released only where an insertion right after it is held
pub needed_of : (slots : List (Identifier × Slot)) (firsts : List (Identifier × Identifier)) (released erased : List Identifier) (room : ℕ) → AreLinked slots firsts released
    → (p : Identifier) → set.contains (waiting_of slots released erased room).released p ≡ true → (q : Identifier) × (follows (waiting_of slots released erased room).held p q ≡ true)
needed_of slots firsts released erased room l p m =
    let first = some_there (first_in firsts p) (l.needed p (sym (contains-from_list released p) ∙ m)) in
    (first.0, follows-names slots released erased room p first.0 ∙ first_names (slot_in slots) p first.0 (first_in firsts p) (l.chains p) first.1)
