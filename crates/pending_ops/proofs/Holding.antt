-- One more held insertion, at the front of its parent's chain.
use Rattle.std.proofs.Common.{◌≡◌, Bool, true, false, cond, ◌||◌, List, [], ◌∷◌, Option, None, Some, sym, ap, subst, ◌∙◌, refl, true≢false, is_some}
use Rattle.std.specs.Option.{option_map_or}
use Rattle.bg_types.specs.Identifier.{Identifier, same_id}
use Rattle.bg_types.specs.WellFormed.{MayFollow}
use Rattle.bg_types.proofs.Interface.{same_id-is, same_id-itself}
use Rattle.pending_ops.specs.declared.chains.Slot.{Slot}
use Rattle.pending_ops.specs.Waiting.{is_after}
use Rattle.pending_ops.specs.Chains.{AreLinked, IsChainOf, Links, first_in, is_in, names, slot_in}
use Rattle.pending_ops.proofs.Tables.{same_id-equivalence, is_in-later, is_in-here}

-- where the slots of those in a walk stay, so does the walk
pub Links-kept : (slot newer : Identifier → Option Slot) (start : Option Identifier) (xs : List Identifier) → ((q : Identifier) → is_in xs q ≡ true → newer q ≡ slot q)
    → Links slot start xs → Links newer start xs
Links-kept slot newer start [] same h = h
Links-kept slot newer start (x ∷ xs) same h =
    (h.0, (h.1.0, (same x (is_in-here x xs) ∙ h.1.1.0, Links-kept slot newer h.1.0.next xs (λ q m. same q (is_in-later q x xs m)) h.1.1.1)))

-- a chain stays where the same slots name the parent
pub chain_kept : (slot newer : Identifier → Option Slot) (p : Identifier) (start : Option Identifier) (was : IsChainOf slot p start)
    → ((q : Identifier) → names newer p q ≡ names slot p q) → ((q : Identifier) → names slot p q ≡ true → newer q ≡ slot q) → IsChainOf newer p start
chain_kept slot newer p start was same stay = record {
  members = was.members;
  links = Links-kept slot newer start was.members (λ q m. stay q (sym (was.exact q) ∙ m)) was.links;
  exact = λ q. was.exact q ∙ sym (same q);
  apart = was.apart;
}

module _ (slots newer : List (Identifier × Slot)) (firsts heads : List (Identifier × Identifier)) (released : List Identifier) (id : Identifier) (s : Slot)
    (l : AreLinked slots firsts released) (absent : slot_in slots id ≡ None) (may : MayFollow s.parent id)
    (put : (q : Identifier) → slot_in newer q ≡ cond (same_id id q) (Some s) (slot_in slots q))
    (head : (p : Identifier) → first_in heads p ≡ cond (is_after s.parent p) (Some id) (first_in firsts p))
    (next : (p : Identifier) → is_after s.parent p ≡ true → s.next ≡ first_in firsts p) where
  other_slot : (q : Identifier) → same_id id q ≡ false → slot_in newer q ≡ slot_in slots q
  other_slot q other = put q ∙ ap (λ b. cond b (Some s) (slot_in slots q)) other

  own_slot : (q : Identifier) → same_id id q ≡ true → slot_in newer q ≡ Some s
  own_slot q own = put q ∙ ap (λ b. cond b (Some s) (slot_in slots q)) own

  was_absent : (q : Identifier) → same_id id q ≡ true → slot_in slots q ≡ None
  was_absent q own = ap (slot_in slots) (sym (same_id-is id q own)) ∙ absent

  own_name : (p q : Identifier) → same_id id q ≡ true → names (slot_in newer) p q ≡ is_after s.parent p
  own_name p q own = ap (λ o. option_map_or (λ (t : Slot). is_after t.parent p) o false) (own_slot q own)

  no_name : (p q : Identifier) → same_id id q ≡ true → names (slot_in slots) p q ≡ false
  no_name p q own = ap (λ o. option_map_or (λ (t : Slot). is_after t.parent p) o false) (was_absent q own)

  other_name : (p q : Identifier) → same_id id q ≡ false → names (slot_in newer) p q ≡ names (slot_in slots) p q
  other_name p q other = ap (λ o. option_map_or (λ (t : Slot). is_after t.parent p) o false) (other_slot q other)

  slot_stays : (p q : Identifier) → names (slot_in slots) p q ≡ true → slot_in newer q ≡ slot_in slots q
  slot_stays p q named =
      elim (same_id id q) as (λ b. same_id id q ≡ b → slot_in newer q ≡ slot_in slots q) [
        | true ↦ λ own. absurd (true≢false (sym named ∙ no_name p q own))
        | false ↦ λ other. other_slot q other
      ] refl

  chain_of : (p : Identifier) → IsChainOf (slot_in newer) p (first_in heads p)
  chain_of p =
      let was = l.chains p in
      elim (is_after s.parent p) as (λ b. is_after s.parent p ≡ b → IsChainOf (slot_in newer) p (first_in heads p)) [
        | true ↦ λ here. record {
          members = id ∷ was.members;
          links = (
            head p ∙ ap (λ b. cond b (Some id) (first_in firsts p)) here,
            (
              s,
              (
                own_slot id (same_id-itself id),
                subst (λ t. Links (slot_in newer) t was.members) (sym (next p here))
                    (Links-kept (slot_in slots) (slot_in newer) (first_in firsts p) was.members (λ q m. slot_stays p q (sym (was.exact q) ∙ m)) was.links),
              ),
            ),
          );
          exact = λ q.
              elim (same_id id q) as (λ b. same_id id q ≡ b → (same_id q id || is_in was.members q) ≡ names (slot_in newer) p q) [
                | true ↦ λ own. ap (λ b. b || is_in was.members q) (same_id-equivalence.symm q id ∙ own) ∙ sym (own_name p q own ∙ here)
                | false ↦ λ other. ap (λ b. b || is_in was.members q) (same_id-equivalence.symm q id ∙ other) ∙ was.exact q ∙ sym (other_name p q other)
              ] refl;
          apart = (was.exact id ∙ no_name p id (same_id-itself id), was.apart);
        }
        | false ↦ λ there. subst (λ t. IsChainOf (slot_in newer) p t) (sym (head p ∙ ap (λ b. cond b (Some id) (first_in firsts p)) there))
            (chain_kept (slot_in slots) (slot_in newer) p (first_in firsts p) was
            (λ q. elim (same_id id q) as (λ b. same_id id q ≡ b → names (slot_in newer) p q ≡ names (slot_in slots) p q) [
              | true ↦ λ own. own_name p q own ∙ there ∙ sym (no_name p q own)
              | false ↦ λ other. other_name p q other
            ] refl) (slot_stays p))
      ] refl

  some_either : (b : Bool) (o : Option Identifier) → is_some o ≡ true → is_some (cond b (Some id) o) ≡ true
  some_either true o h = refl
  some_either false o h = h

  pub AreLinked-held : AreLinked newer heads released
  AreLinked-held = record {
    chains = chain_of;
    needed = λ p m. ap is_some (head p) ∙ some_either (is_after s.parent p) (first_in firsts p) (l.needed p m);
    formed = λ q t e.
        elim (same_id id q) as (λ b. same_id id q ≡ b → MayFollow t.parent q) [
          | true ↦ λ own.
              let f : Some s ≡ Some t = sym (own_slot q own) ∙ e in
              let g : s ≡ t = cc in
              subst (λ (u : Slot). MayFollow u.parent q) g (subst (λ x. MayFollow s.parent x) (same_id-is id q own) may)
          | false ↦ λ other. l.formed q t (sym (other_slot q other) ∙ e)
        ] refl;
  }
