-- Listing what stands below an identifier, breadth first.
use Rattle.std.proofs.Common.{◌≡◌, ◌≤◌, ◌<◌, ◌+◌, ◌++◌, ℕ, Bool, true, false, List, [], ◌∷◌, length, Option, None, Some, sym, ap, subst, ◌∙◌, refl, true≢false, arith, length-append, append_assoc}
use Rattle.std.specs.Prelude.{◌||◌, slice_get}
use Rattle.std.specs.Option.{option_map_or}
use Rattle.std.specs.List.{list_any}
use Rattle.std.specs.FinSet as set
use Rattle.std.proofs.lemmas.List.{append-nil}
use Rattle.std.proofs.lemmas.List.Folds.{list_any-append}
use Rattle.bg_types.specs.Identifier.{Identifier, same_id}
use Rattle.bg_types.specs.OperationSet.{OperationSet}
use Rattle.bg_types.specs.WellFormed.{MayFollow}
use Rattle.bg_types.specs.declared.op.Place.{Place}
use Rattle.bg_types.specs.declared.op.Place.TheVariants.{Root, After}
use Rattle.bg_types.proofs.Interface.{same_id-is}
use Rattle.pending_ops.specs.declared.chains.Slot.{Slot}
use Rattle.pending_ops.specs.Waiting.{is_after}
use Rattle.pending_ops.specs.Below.{CountsBelow, IsChain}
use Rattle.pending_ops.specs.Chains.{AreApart, IsChainOf, insertions_of, is_in, names, slot_in}
use Rattle.pending_ops.proofs.Tables.{AreApart-append, is_in-append, is_in-here, is_in-keys_of, is_in-later, is_in-slice_get, keys_of, length-keys_of, length-le, one_of, same_id-equivalence}
use Rattle.pending_ops.proofs.Views.{contains-from_list, follows-insertions_of}
use Rattle.pending_ops.proofs.HandingOut.{is_after-one}
use Rattle.pending_ops.proofs.Listing.{len-from_list}
use Rattle.std.proofs.lemmas.Bool.{or_parts, or_right}

-- the slot of q names one of these
abbrev pub names_one : (Identifier → Option Slot) → List Identifier → Identifier → Bool
names_one slot ps q = list_any (λ p. names slot p q) ps

-- the slots of q, these and the last one lead to id
abbrev pub LeadsTo : (Identifier → Option Slot) → Identifier → List Identifier → Identifier → Type 0
LeadsTo slot q [] id = names slot id q ≡ true
LeadsTo slot q (p ∷ ps) id = (names slot p q ≡ true) × LeadsTo slot p ps id

-- xs lists what names id, or one of those that were looked at, which come first
pub record IsListing (slot : Identifier → Option Slot) (id : Identifier) (xs : List Identifier) (looked : ℕ) : Type 0 where
  pub done : List Identifier
  pub todo : List Identifier
  pub parts : xs ≡ done ++ todo
  pub at : length done ≡ looked
  pub exact : (q : Identifier) → is_in xs q ≡ (names slot id q || names_one slot done q)
  pub apart : AreApart xs
  pub below : (q : Identifier) → is_in xs q ≡ true → (ps : List Identifier) × LeadsTo slot q ps id
  pub later : (q : Identifier) → is_in xs q ≡ true → id.counter < q.counter

-- the slot of a member of a list is there
there_slot : (o : Option Slot) (p : Identifier) → option_map_or (λ (s : Slot). is_after s.parent p) o false ≡ true → (s : Slot) × ((o ≡ Some s) × (is_after s.parent p ≡ true))
there_slot None p h = absurd (true≢false (sym h))
there_slot (Some s) p h = (s, (refl, h))

-- a slot names one parent
names-one : (slot : Identifier → Option Slot) (p r q : Identifier) → names slot p q ≡ true → names slot r q ≡ true → p ≡ r
names-one slot p r q h k = by (slot q) h k
  where
    by : (o : Option Slot) → option_map_or (λ (s : Slot). is_after s.parent p) o false ≡ true → option_map_or (λ (s : Slot). is_after s.parent r) o false ≡ true → p ≡ r
    by None h k = absurd (true≢false (sym h))
    by (Some s) h k = same_id-is p r (sym (is_after-one s.parent p r h) ∙ k)

counter_below : (a : Place) (p q : Identifier) → is_after a p ≡ true → MayFollow a q → p.counter < q.counter
counter_below Root p q h may = absurd (true≢false (sym h))
counter_below (After a) p q h may = subst (λ (x : Identifier). x.counter < q.counter) (same_id-is a p h) may.1

one_among : (slot : Identifier → Option Slot) (ps : List Identifier) (q : Identifier) → names_one slot ps q ≡ true → (p : Identifier) × ((is_in ps p ≡ true) × (names slot p q ≡ true))
one_among slot [] q h = absurd (true≢false (sym h))
one_among slot (p ∷ ps) q h =
    one_of (names slot p q) (names_one slot ps q) _ h
    (λ here. (p, (is_in-here p ps, here)))
    (λ there. let r = one_among slot ps q there in (r.0, (is_in-later r.0 p ps r.1.0, r.1.1)))

among_one : (slot : Identifier → Option Slot) (ps : List Identifier) (p q : Identifier) → is_in ps p ≡ true → names slot p q ≡ true → names_one slot ps q ≡ true
among_one slot [] p q m h = absurd (true≢false (sym m))
among_one slot (r ∷ ps) p q m h =
    one_of (same_id p r) (is_in ps p) _ m
    (λ same. ap (λ b. b || names_one slot ps q) (subst (λ x. names slot x q ≡ true) (same_id-is p r same) h))
    (λ there. or_right (names slot r q) (names_one slot ps q) (among_one slot ps p q there h))

at_split : (done todo : List Identifier) (x : Identifier) → slice_get (done ++ todo) (length done) ≡ Some x → (more : List Identifier) × (todo ≡ x ∷ more)
at_split [] [] x h = let e : None ≡ Some x = h in absurd cc
at_split [] (y ∷ ys) x h = let e : Some y ≡ Some x = h in let same : y ≡ x = cc in (ys, ap (λ z. z ∷ ys) same)
at_split (y ∷ ys) todo x h = at_split ys todo x h

not_before : (done more : List Identifier) (x : Identifier) → AreApart (done ++ x ∷ more) → is_in done x ≡ false
not_before [] more x h = refl
not_before (y ∷ ys) more x h =
    let apart : (is_in ys y || (same_id y x || is_in more y)) ≡ false = sym (is_in-append y ys (x ∷ more)) ∙ h.0 in
    let other = (or_parts (same_id y x) (is_in more y) (or_parts (is_in ys y) (same_id y x || is_in more y) apart).1).0 in
    λ i. (same_id-equivalence.symm x y ∙ other) i || not_before ys more x h.1 i

or_assoc : (a b c : Bool) → ((a || b) || c) ≡ (a || (b || c))
or_assoc true b c = refl
or_assoc false b c = refl

or-false : (b : Bool) → (b || false) ≡ b
or-false true = refl
or-false false = refl

module _ (slot : Identifier → Option Slot) (formed : (q : Identifier) (s : Slot) → slot q ≡ Some s → MayFollow s.parent q) where
  names_later : (p q : Identifier) → names slot p q ≡ true → p.counter < q.counter
  names_later p q h = let s = there_slot (slot q) p h in counter_below s.0.parent p q s.1.1 (formed q s.0 s.1.0)

  -- what names the identifier itself
  pub listing_first : (id : Identifier) (start : Option Identifier) (chain : IsChainOf slot id start) → IsListing slot id chain.members 0
  listing_first id start chain = record {
    done = [];
    todo = chain.members;
    parts = refl;
    at = refl;
    exact = λ q. chain.exact q ∙ sym (or-false (names slot id q));
    apart = chain.apart;
    below = λ q m. ([], sym (chain.exact q) ∙ m);
    later = λ q m. names_later id q (sym (chain.exact q) ∙ m);
  }

  -- and what names the next one that was not looked at
  module _ (id : Identifier) (xs : List Identifier) (looked : ℕ) (l : IsListing slot id xs looked) (x : Identifier) (at : slice_get xs looked ≡ Some x)
      (start : Option Identifier) (chain : IsChainOf slot x start) where
    rest : (more : List Identifier) × (l.todo ≡ x ∷ more)
    rest = at_split l.done l.todo x (ap (slice_get (l.done ++ l.todo)) l.at ∙ ap (λ ys. slice_get ys looked) (sym l.parts) ∙ at)

    x_in : is_in xs x ≡ true
    x_in = is_in-slice_get xs looked x at

    x_not_done : is_in l.done x ≡ false
    x_not_done = not_before l.done rest.0 x (subst AreApart (l.parts ∙ ap (λ ys. l.done ++ ys) rest.1) l.apart)

    new_ones : (q : Identifier) → is_in xs q ≡ true → is_in chain.members q ≡ false
    new_ones q m = chain.exact q ∙ by (names slot x q) refl
      where
        by : (b : Bool) → names slot x q ≡ b → names slot x q ≡ false
        by false e = e
        by true e = one_of (names slot id q) (names_one slot l.done q) _ (sym (l.exact q) ∙ m)
            (λ root.
            let same : x ≡ id = names-one slot x id q e root in
            let lower : id.counter < x.counter = l.later x x_in in
            let equal : x.counter ≡ id.counter = ap (λ (y : Identifier). y.counter) same in
            absurd (omega arith))
            (λ earlier.
            let p = one_among slot l.done q earlier in
            let same : p.0 ≡ x = names-one slot p.0 x q p.1.1 e in
            absurd (true≢false (sym p.1.0 ∙ ap (is_in l.done) same ∙ x_not_done)))

    in_either : (q : Identifier) (P : Type 0) → is_in (xs ++ chain.members) q ≡ true → (is_in xs q ≡ true → P) → (names slot x q ≡ true → P) → P
    in_either q P m f g = one_of (is_in xs q) (is_in chain.members q) P (sym (is_in-append q xs chain.members) ∙ m) f (λ k. g (sym (chain.exact q) ∙ k))

    pub listing_more : IsListing slot id (xs ++ chain.members) (looked + 1)
    listing_more = record {
      done = l.done ++ x ∷ [];
      todo = rest.0 ++ chain.members;
      parts = ap (λ ys. ys ++ chain.members) (l.parts ∙ ap (λ ys. l.done ++ ys) rest.1) ∙ append_assoc l.done (x ∷ rest.0) chain.members ∙ sym (append_assoc l.done (x ∷ []) (rest.0 ++ chain.members));
      at = length-append l.done (x ∷ []) ∙ ap (λ n. n + 1) l.at;
      exact = λ q.
          is_in-append q xs chain.members ∙ (λ i. l.exact q i || chain.exact q i) ∙ or_assoc (names slot id q) (names_one slot l.done q) (names slot x q)
          ∙ ap (λ b. names slot id q || b) (ap (λ b. names_one slot l.done q || b) (sym (or-false (names slot x q))) ∙ sym (list_any-append (λ p. names slot p q) l.done (x ∷ [])));
      apart = AreApart-append xs chain.members l.apart chain.apart new_ones;
      below = λ q m. in_either q _ m (l.below q) (λ h. let up = l.below x x_in in (x ∷ up.0, (h, up.1)));
      later = λ q m. in_either q _ m (l.later q) (λ h. let up : id.counter < x.counter = l.later x x_in in let next = names_later x q h in omega arith);
    }

-- each has a slot, so there are no more than slots
pub listing_fits : (slots : List (Identifier × Slot)) (id : Identifier) (xs : List Identifier) (looked : ℕ) → IsListing (slot_in slots) id xs looked → length xs ≤ length slots
listing_fits slots id xs looked l =
    let few = length-le xs (keys_of slots) l.apart (λ q m. one_of (names (slot_in slots) id q) (names_one (slot_in slots) l.done q) _ (sym (l.exact q) ∙ m)
    (λ h. let s = there_slot (slot_in slots q) id h in is_in-keys_of slots q s.0 s.1.0)
    (λ h. let p = one_among (slot_in slots) l.done q h in let s = there_slot (slot_in slots q) p.0 p.1.1 in is_in-keys_of slots q s.0 s.1.0)) in
    let keys = length-keys_of slots in
    omega arith

all_done : (xs done todo : List Identifier) → xs ≡ done ++ todo → length xs ≤ length done → xs ≡ done
all_done xs done [] parts all = parts ∙ append-nil done
all_done xs done (x ∷ todo) parts all = let n = ap length parts in let m = length-append done (x ∷ todo) in absurd (omega arith)

module _ (slots : List (Identifier × Slot)) (id : Identifier) (xs : List Identifier) (looked : ℕ) (l : IsListing (slot_in slots) id xs looked) (all : length xs ≤ looked)
    (s : OperationSet) (ins : s.ins ≡ insertions_of slots) where
  chain_of : (q : Identifier) (ps : List Identifier) → LeadsTo (slot_in slots) q ps id → IsChain s q ps id
  chain_of q [] h = follows-insertions_of slots s ins id q ∙ h
  chain_of q (p ∷ ps) h = (follows-insertions_of slots s ins p q ∙ h.0, chain_of p ps h.1)

  done_is : xs ≡ l.done
  done_is = all_done xs l.done l.todo l.parts (let n = l.at in omega arith)

  listed : (q : Identifier) (ps : List Identifier) → IsChain s q ps id → is_in xs q ≡ true
  listed q [] h = l.exact q ∙ ap (λ b. b || names_one (slot_in slots) l.done q) (sym (follows-insertions_of slots s ins id q) ∙ h)
  listed q (p ∷ ps) h =
      let up = listed p ps h.1 in
      l.exact q
      ∙ or_right (names (slot_in slots) id q) (names_one (slot_in slots) l.done q)
      (among_one (slot_in slots) l.done p q (sym (ap (λ ys. is_in ys p) done_is) ∙ up) (sym (follows-insertions_of slots s ins p q) ∙ h.0))

  pub listing_counts : CountsBelow s id (length xs)
  listing_counts = (
    set.from_list xs,
    (
      (λ q. ((λ m. let up = l.below q (sym (contains-from_list xs q) ∙ m) in (up.0, chain_of q up.0 up.1)), (λ h. contains-from_list xs q ∙ listed q h.0 h.1))),
      len-from_list xs l.apart,
    ),
  )
