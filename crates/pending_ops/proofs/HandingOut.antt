-- The front of a released parent's chain is handed out.
use Rattle.std.proofs.Common.{◌≡◌, ◌++◌, Bool, true, false, not, ℕ, cond, ◌&&◌, ◌||◌, List, [], ◌∷◌, Option, None, Some, sym, ap, subst, ◌∙◌, refl, true≢false, is_some}
use Rattle.std.specs.Option.{option_map, option_map_or}
use Rattle.std.specs.FinMap as map
use Rattle.std.specs.FinSet as set
use Rattle.bg_types.specs.Identifier.{Identifier, same_id}
use Rattle.bg_types.specs.OperationSet.{Node}
use Rattle.bg_types.specs.declared.op.Place.{Place}
use Rattle.bg_types.specs.declared.op.Place.TheVariants.{Root, After}
use Rattle.bg_types.proofs.Interface.{same_id-is, same_id-itself}
use Rattle.pending_ops.specs.declared.chains.Slot.{Slot}
use Rattle.pending_ops.specs.Waiting.{Waiting, HandsOut, NoneReady, is_after, is_ready, is_released}
use Rattle.pending_ops.specs.Chains.{AreApart, AreLinked, IsChainOf, Links, first_in, is_in, names, node_in, slot_in, waiting_of}
use Rattle.pending_ops.proofs.Tables.{same_id-equivalence, is_in-append, is_in-here}
use Rattle.pending_ops.specs.Chains.{insertions_of}
use Rattle.pending_ops.proofs.Views.{contains-from_list, get-insertions_of, insertions_of-removed, first_names, needed_of}
use Rattle.pending_ops.proofs.Walks.{leads_on}
use Rattle.pending_ops.proofs.Holding.{Links-kept, chain_kept}

-- a place is right after one identifier
pub is_after-one : (a : Place) (p q : Identifier) → is_after a p ≡ true → is_after a q ≡ same_id p q
is_after-one Root p q h = absurd (true≢false (sym h))
is_after-one (After a) p q h = ap (λ x. same_id x q) (same_id-is a p h)

-- where nothing is released, nothing is ready
pub none_ready : (slots : List (Identifier × Slot)) (released erased : List Identifier) (room : ℕ) → released ≡ [] → NoneReady (waiting_of slots released erased room)
none_ready slots released erased room e q = ap (λ xs. is_ready (waiting_of slots xs erased room) q) e ∙ by (map.get (insertions_of slots) q)
  where
    at : (a : Place) → is_released (waiting_of slots [] erased room) a ≡ false
    at Root = refl
    at (After p) = contains-from_list [] p

    by : (o : Option Node) → option_map_or (λ (n : Node). is_released (waiting_of slots [] erased room) n.parent) o false ≡ false
    by None = refl
    by (Some n) = at n.parent

module _ (slots newer : List (Identifier × Slot)) (firsts heads : List (Identifier × Identifier)) (released rest erased before : List Identifier) (room : ℕ) (parent id : Identifier) (s : Slot)
    (l : AreLinked slots firsts released) (last : released ≡ before ++ parent ∷ []) (first : first_in firsts parent ≡ Some id) (slot : slot_in slots id ≡ Some s)
    (cut : (q : Identifier) → slot_in newer q ≡ cond (same_id id q) None (slot_in slots q))
    (head : (p : Identifier) → first_in heads p ≡ cond (same_id parent p) s.next (first_in firsts p))
    (kept : is_some s.next ≡ true → rest ≡ released)
    (emptied : s.next ≡ None → (p : Identifier) → is_in rest p ≡ (not (same_id parent p) && is_in released p)) where
  named : names (slot_in slots) parent id ≡ true
  named = first_names (slot_in slots) parent id (first_in firsts parent) (l.chains parent) first

  after_parent : is_after s.parent parent ≡ true
  after_parent = sym (ap (λ o. option_map_or (λ (t : Slot). is_after t.parent parent) o false) slot) ∙ named

  other_slot : (q : Identifier) → same_id id q ≡ false → slot_in newer q ≡ slot_in slots q
  other_slot q other = cut q ∙ ap (λ b. cond b None (slot_in slots q)) other

  no_slot : (q : Identifier) → same_id id q ≡ true → slot_in newer q ≡ None
  no_slot q own = cut q ∙ ap (λ b. cond b None (slot_in slots q)) own

  names_now : (p q : Identifier) → names (slot_in newer) p q ≡ (not (same_id id q) && names (slot_in slots) p q)
  names_now p q =
      elim (same_id id q) as (λ b. same_id id q ≡ b → names (slot_in newer) p q ≡ (not b && names (slot_in slots) p q)) [
        | true ↦ λ own. ap (λ o. option_map_or (λ (t : Slot). is_after t.parent p) o false) (no_slot q own)
        | false ↦ λ other. ap (λ o. option_map_or (λ (t : Slot). is_after t.parent p) o false) (other_slot q other)
      ] refl

  on : (more : List Identifier) × (((l.chains parent).members ≡ id ∷ more) × Links (slot_in slots) s.next more)
  on =
      let was = l.chains parent in
      let n = leads_on (slot_in slots) id was.members (subst (λ o. Links (slot_in slots) o was.members) first was.links) in
      let same : n.at ≡ s = let e : Some n.at ≡ Some s = sym n.found ∙ slot in cc in
      (n.more, (n.all, subst (λ (t : Slot). Links (slot_in slots) t.next n.more) same n.left))

  apart : AreApart (id ∷ on.0)
  apart = subst (λ xs. AreApart xs) on.1.0 (l.chains parent).apart

  exact : (q : Identifier) → (same_id q id || is_in on.0 q) ≡ names (slot_in slots) parent q
  exact q = sym (ap (λ xs. is_in xs q) on.1.0) ∙ (l.chains parent).exact q

  among : (q : Identifier) → is_in on.0 q ≡ true → same_id id q ≡ false
  among q m = elim (same_id id q) as (λ b. same_id id q ≡ b → b ≡ false) [
    | true ↦ λ own. sym m ∙ ap (λ x. is_in on.0 x) (sym (same_id-is id q own)) ∙ apart.0
    | false ↦ λ _. refl
  ] refl

  own_chain : IsChainOf (slot_in newer) parent s.next
  own_chain = record {
    members = on.0;
    links = Links-kept (slot_in slots) (slot_in newer) s.next on.0 (λ q m. other_slot q (among q m)) on.1.1;
    exact = λ q.
        elim (same_id id q) as (λ b. same_id id q ≡ b → is_in on.0 q ≡ (not b && names (slot_in slots) parent q)) [
          | true ↦ λ own. ap (λ x. is_in on.0 x) (sym (same_id-is id q own)) ∙ apart.0
          | false ↦ λ other. sym (ap (λ b. b || is_in on.0 q) (same_id-equivalence.symm q id ∙ other)) ∙ exact q
        ] refl ∙ sym (names_now parent q);
    apart = apart.1;
  }

  not_named : (p : Identifier) → same_id parent p ≡ false → names (slot_in slots) p id ≡ false
  not_named p other = ap (λ o. option_map_or (λ (t : Slot). is_after t.parent p) o false) slot ∙ is_after-one s.parent parent p after_parent ∙ other

  other_than : (p q : Identifier) → same_id parent p ≡ false → names (slot_in slots) p q ≡ true → same_id id q ≡ false
  other_than p q other named_there = elim (same_id id q) as (λ b. same_id id q ≡ b → b ≡ false) [
    | true ↦ λ own. sym named_there ∙ ap (λ x. names (slot_in slots) p x) (sym (same_id-is id q own)) ∙ not_named p other
    | false ↦ λ _. refl
  ] refl

  chain_of : (p : Identifier) → IsChainOf (slot_in newer) p (first_in heads p)
  chain_of p =
      elim (same_id parent p) as (λ b. same_id parent p ≡ b → IsChainOf (slot_in newer) p (first_in heads p)) [
        | true ↦ λ own. subst (λ o. IsChainOf (slot_in newer) p o) (sym (head p ∙ ap (λ b. cond b s.next (first_in firsts p)) own))
            (subst (λ x. IsChainOf (slot_in newer) x s.next) (same_id-is parent p own) own_chain)
        | false ↦ λ other. subst (λ o. IsChainOf (slot_in newer) p o) (sym (head p ∙ ap (λ b. cond b s.next (first_in firsts p)) other))
            (chain_kept (slot_in slots) (slot_in newer) p (first_in firsts p) (l.chains p)
            (λ q. names_now p q ∙ elim (same_id id q) as (λ b. same_id id q ≡ b → (not b && names (slot_in slots) p q) ≡ names (slot_in slots) p q) [
              | true ↦ λ own. sym (ap (λ x. names (slot_in slots) p x) (sym (same_id-is id q own)) ∙ not_named p other)
              | false ↦ λ _. refl
            ] refl)
            (λ q m. other_slot q (other_than p q other m)))
      ] refl

  still_needed : (p : Identifier) → is_in rest p ≡ true → is_some (first_in heads p) ≡ true
  still_needed p m = ap is_some (head p) ∙ by s.next refl (same_id parent p) refl
    where
      by : (o : Option Identifier) → s.next ≡ o → (b : Bool) → same_id parent p ≡ b → is_some (cond b o (first_in firsts p)) ≡ true
      by (Some n) e true own = refl
      by (Some n) e false other = l.needed p (sym (ap (λ xs. is_in xs p) (kept (ap is_some e))) ∙ m)
      by None e true own = absurd (true≢false (sym (sym (emptied e p ∙ ap (λ b. not b && is_in released p) own) ∙ m)))
      by None e false other = l.needed p (sym (emptied e p ∙ ap (λ b. not b && is_in released p) other) ∙ m)

  pub AreLinked-handed_out : AreLinked newer heads rest
  AreLinked-handed_out = record {
    chains = chain_of;
    needed = still_needed;
    formed = λ q t e. l.formed q t (by q t (same_id id q) refl e);
  }
    where
      by : (q : Identifier) (t : Slot) (b : Bool) → same_id id q ≡ b → slot_in newer q ≡ Some t → slot_in slots q ≡ Some t
      by q t true own e = let f : None ≡ Some t = sym (no_slot q own) ∙ e in absurd cc
      by q t false other e = sym (other_slot q other) ∙ e

  abbrev old : Waiting
  old = waiting_of slots released erased room

  abbrev new : Waiting
  new = waiting_of newer rest erased room

  parent_in : is_in released parent ≡ true
  parent_in = ap (λ xs. is_in xs parent) last ∙ is_in-append parent before (parent ∷ []) ∙ by (is_in before parent) (is_in (parent ∷ []) parent) (is_in-here parent [])
    where
      by : (a b : Bool) → b ≡ true → (a || b) ≡ true
      by true b h = refl
      by false b h = h

  was_held : map.get old.held.ins id ≡ Some (node_in s)
  was_held = get-insertions_of slots id ∙ ap (option_map node_in) slot

  place_released : (a : Place) → is_after a parent ≡ true → is_released old a ≡ true
  place_released Root h = absurd (true≢false (sym h))
  place_released (After a) h = contains-from_list released a ∙ ap (λ x. is_in released x) (same_id-is a parent h) ∙ parent_in

  was_ready : is_ready old id ≡ true
  was_ready = ap (λ o. option_map_or (λ (n : Node). is_released old n.parent) o false) was_held ∙ place_released s.parent after_parent

  -- a parent that another held insertion names is released as it was
  same_released : (p q : Identifier) → same_id id q ≡ false → names (slot_in slots) p q ≡ true → is_in rest p ≡ is_in released p
  same_released p q other named_there = by s.next refl (same_id parent p) refl
    where
      none_more : (xs : List Identifier) → Links (slot_in slots) None xs → is_in xs q ≡ false
      none_more [] h = refl
      none_more (x ∷ xs) h = let f : None ≡ Some x = h.0 in absurd cc

      by : (o : Option Identifier) → s.next ≡ o → (b : Bool) → same_id parent p ≡ b → is_in rest p ≡ is_in released p
      by (Some n) e b own = ap (λ xs. is_in xs p) (kept (ap is_some e))
      by None e true own =
          let more = none_more on.0 (subst (λ o. Links (slot_in slots) o on.0) e on.1.1) in
          absurd (true≢false (sym named_there ∙ ap (λ x. names (slot_in slots) x q) (sym (same_id-is parent p own)) ∙ sym (exact q)
          ∙ (λ i. (same_id-equivalence.symm q id ∙ other) i || more i)))
      by None e false there = emptied e p ∙ ap (λ b. not b && is_in released p) there

  slot_ready : (q : Identifier) → same_id id q ≡ false → (o : Option Slot) → slot_in slots q ≡ o
      → option_map_or (λ (n : Node). is_released new n.parent) (option_map node_in o) false ≡ option_map_or (λ (n : Node). is_released old n.parent) (option_map node_in o) false
  slot_ready q other None e = refl
  slot_ready q other (Some t) e = at t.parent refl
    where
      at : (a : Place) → t.parent ≡ a → is_released new a ≡ is_released old a
      at Root f = refl
      at (After p) f =
          contains-from_list rest p
          ∙ same_released p q other (ap (λ o. option_map_or (λ (u : Slot). is_after u.parent p) o false) e ∙ ap (λ x. is_after x p) f ∙ same_id-itself p)
          ∙ sym (contains-from_list released p)

  ready_now : (q : Identifier) → is_ready new q ≡ (not (same_id q id) && is_ready old q)
  ready_now q =
      ap (λ o. option_map_or (λ (n : Node). is_released new n.parent) o false) (get-insertions_of newer q)
      ∙ by (same_id id q) refl ∙ ap (λ b. not b && is_ready old q) (same_id-equivalence.symm id q)
    where
      by : (b : Bool) → same_id id q ≡ b → option_map_or (λ (n : Node). is_released new n.parent) (option_map node_in (slot_in newer q)) false ≡ (not b && is_ready old q)
      by true own = ap (λ o. option_map_or (λ (n : Node). is_released new n.parent) (option_map node_in o) false) (no_slot q own)
      by false other =
          ap (λ o. option_map_or (λ (n : Node). is_released new n.parent) (option_map node_in o) false) (other_slot q other)
          ∙ slot_ready q other (slot_in slots q) refl
          ∙ sym (ap (λ o. option_map_or (λ (n : Node). is_released old n.parent) o false) (get-insertions_of slots q))

  pub hands_out : HandsOut old id (node_in s) new
  hands_out = record {
    was_held = was_held;
    was_ready = was_ready;
    held = λ i. record { ins = insertions_of-removed slots newer id cut i; del = set.from_list erased };
    room = refl;
    ready = ready_now;
    needed = needed_of newer heads rest erased room AreLinked-handed_out;
  }
