-- Releasing the chain of a parent.
use Rattle.std.proofs.Common.{◌≡◌, ◌≤◌, ◌+◌, Bool, true, false, ℕ, cond, ◌||◌, List, [], ◌∷◌, length, Option, None, Some, sym, ap, subst, ◌∙◌, refl, is_some, arith}
use Rattle.std.specs.Option.{option_map_or}
use Rattle.std.specs.FinMap as map
use Rattle.bg_types.specs.Identifier.{Identifier, same_id}
use Rattle.bg_types.specs.OperationSet.{Node}
use Rattle.bg_types.specs.declared.op.Place.{Place}
use Rattle.bg_types.specs.declared.op.Place.TheVariants.{Root, After}
use Rattle.bg_types.proofs.Interface.{same_id-is}
use Rattle.pending_ops.specs.declared.chains.Slot.{Slot}
use Rattle.pending_ops.specs.Waiting.{Releases, is_after, is_ready, is_released}
use Rattle.pending_ops.specs.Chains.{AreApart, AreLinked, IsChainOf, Links, first_in, is_in, names, slot_in, waiting_of}
use Rattle.pending_ops.proofs.Tables.{same_id-equivalence, keys_of, length-keys_of, length-le, is_in-keys_of, one_of}
use Rattle.pending_ops.proofs.Views.{contains-from_list, follows-names, needed_of, some_there}

or-false : (b : Bool) → b ≡ (b || false)
or-false true = refl
or-false false = refl

module _ (slots : List (Identifier × Slot)) (firsts : List (Identifier × Identifier)) (released erased : List Identifier) (room : ℕ) (id : Identifier) (l : AreLinked slots firsts released) where
  -- there is room for one more released parent
  pub fewer_released : is_some (first_in firsts id) ≡ true → is_in released id ≡ false → AreApart released → length released + 1 ≤ length firsts
  fewer_released there new apart =
      let one : length (id ∷ released) ≤ length (keys_of firsts) = length-le (id ∷ released) (keys_of firsts) (new, apart) (λ q m. one_of (same_id q id) (is_in released q) _ m
      (λ same. let at = some_there (first_in firsts id) there in
      subst (λ x. is_in (keys_of firsts) x ≡ true) (sym (same_id-is q id same)) (is_in-keys_of firsts id at.0 at.1))
      (λ k. let at = some_there (first_in firsts q) (l.needed q k) in is_in-keys_of firsts q at.0 at.1)) in
      let keys = length-keys_of firsts in
      omega arith

  module _ (more : List Identifier) (grown : (q : Identifier) → is_in more q ≡ cond (same_id id q) true (is_in released q)) (there : is_some (first_in firsts id) ≡ true) where
    by_both : (p : Identifier) (b : Bool) → same_id id p ≡ b → cond b true (is_in released p) ≡ true → is_some (first_in firsts p) ≡ true
    by_both p true own m = ap (λ x. is_some (first_in firsts x)) (sym (same_id-is id p own)) ∙ there
    by_both p false other m = l.needed p m

    pub AreLinked-released : AreLinked slots firsts more
    AreLinked-released = record {
      chains = l.chains;
      needed = λ p m. by_both p (same_id id p) refl (sym (grown p) ∙ m);
      formed = l.formed;
    }

    as_or : (a b : Bool) → cond a true b ≡ (b || a)
    as_or true true = refl
    as_or true false = refl
    as_or false b = or-false b

    place_ready : (a : Place) → is_released (waiting_of slots more erased room) a ≡ (is_released (waiting_of slots released erased room) a || is_after a id)
    place_ready Root = refl
    place_ready (After p) =
        contains-from_list more p ∙ grown p ∙ as_or (same_id id p) (is_in released p) ∙ (λ i. sym (contains-from_list released p) i || same_id-equivalence.symm id p i)

    node_ready : (o : Option Node) → option_map_or (λ (n : Node). is_released (waiting_of slots more erased room) n.parent) o false
        ≡ (option_map_or (λ (n : Node). is_released (waiting_of slots released erased room) n.parent) o false || option_map_or (λ (n : Node). is_after n.parent id) o false)
    node_ready None = refl
    node_ready (Some n) = place_ready n.parent

    pub Releases-some : Releases (waiting_of slots released erased room) id (waiting_of slots more erased room)
    Releases-some = record {
      held = refl;
      listed = refl;
      room = refl;
      ready = λ q. node_ready (map.get (waiting_of slots released erased room).held.ins q);
      needed = needed_of slots firsts more erased room AreLinked-released;
    }

  none_named : (start : Option Identifier) → start ≡ None → IsChainOf (slot_in slots) id start → (q : Identifier) → names (slot_in slots) id q ≡ false
  none_named start e c q = sym (c.exact q) ∙ ap (λ xs. is_in xs q) (empty c.members (subst (λ o. Links (slot_in slots) o c.members) e c.links))
    where
      empty : (xs : List Identifier) → Links (slot_in slots) None xs → xs ≡ []
      empty [] h = refl
      empty (x ∷ xs) h = let f : None ≡ Some x = h.0 in cc

  -- nothing stands right after the identifier
  pub Releases-none : first_in firsts id ≡ None → Releases (waiting_of slots released erased room) id (waiting_of slots released erased room)
  Releases-none gone = record {
    held = refl;
    listed = refl;
    room = refl;
    ready = λ q. or-false _ ∙ ap (λ b. is_ready (waiting_of slots released erased room) q || b)
        (sym (follows-names slots released erased room id q ∙ none_named (first_in firsts id) gone (l.chains id) q));
    needed = needed_of slots firsts released erased room l;
  }
