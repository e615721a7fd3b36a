-- The goals of `release_of` that are answered by hand.
use Rattle.std.proofs.Common.{◌≡◌, List, true, false, cond, sym, ap, subst, ◌∙◌, refl, length, arith, rules, is_some}
use Rattle.bg_types.specs.Identifier.{Identifier, same_id}
use Rattle.bg_types.proofs.Interface.{same_id-is}
use Rattle.pending_ops.specs.Waiting.{Releases}
use Rattle.pending_ops.specs.Chains.{AreApart, first_in, is_in, waiting_of}
use Rattle.pending_ops.proofs.Tables.{IsDistinct-id_eq, added_one, from_ok, is_in-updated, list_any-id_eq, none_there, ok_if, ok_is}
use Rattle.pending_ops.proofs.Freeing.{AreLinked-released, Releases-none, Releases-some, fewer_released}
use Rattle.pending_ops.proofs.held.Held.release_of.Goals as goal

pub unwrap-requires : goal.unwrap-requires
unwrap-requires c =
    let firsts = c.self.inside.firsts.entries in
    let released = c.self.inside.released.keys in
    let id = c.args.id in
    let some : is_some c.first_of.result ≡ true = search rules in
    let there : is_some (first_in firsts id) ≡ true = ap is_some (sym c.first_of.ensures) ∙ some in
    let new : is_in released id ≡ false = sym (c.if-contains.ensures ∙ list_any-id_eq released id) in
    let apart = IsDistinct-id_eq c.insert.new.self.keys c.insert.ensures.unique in
    ok_if c.insert.result _ c.insert.ensures.err (λ same.
    let fewer = fewer_released c.self.inside.slots.entries firsts released c.self.inside.erased.keys c.self.inside.room id c.self.invariant.0 there new (subst AreApart same apart) in
    let room = c.self.invariant.1.0 in
    c.insert.ensures.succeeds (omega arith))

pub invariant_of-self : goal.invariant_of-self
invariant_of-self c =
    let firsts = c.self.inside.firsts.entries in
    let released = c.self.inside.released.keys in
    let more = c.insert.new.self.keys in
    let id = c.args.id in
    let some : is_some c.first_of.result ≡ true = search rules in
    let there : is_some (first_in firsts id) ≡ true = ap is_some (sym c.first_of.ensures) ∙ some in
    let ok = ok_is c.insert.result c.unwrap.result c.unwrap.ensures in
    let grown = is_in-updated released more id true (from_ok c.insert.result _ ok c.insert.ensures.updates).0 in
    let one = added_one c.insert.result _ (length more) (length released) ok (sym c.if-contains.ensures) c.insert.ensures.added c.insert.ensures.len in
    let spare = c.insert.ensures.spare in
    let room = c.self.invariant.1.1 in
    (AreLinked-released c.self.inside.slots.entries firsts released c.self.inside.erased.keys c.self.inside.room id c.self.invariant.0 more grown there, (c.self.invariant.1.0, (room.0, room.1, room.2, room.3, omega arith)))

pub returns : goal.returns
returns c =
    let slots = c.self.inside.slots.entries in
    let firsts = c.self.inside.firsts.entries in
    let released = c.self.inside.released.keys in
    let erased = c.self.inside.erased.keys in
    let more = c.insert.new.self.keys in
    let id = c.args.id in
    let some : is_some c.first_of.result ≡ true = search rules in
    let there : is_some (first_in firsts id) ≡ true = ap is_some (sym c.first_of.ensures) ∙ some in
    let grown = is_in-updated released more id true (from_ok c.insert.result _ (ok_is c.insert.result c.unwrap.result c.unwrap.ensures) c.insert.ensures.updates).0 in
    subst (λ w. Releases w id (waiting_of slots more erased c.self.inside.room)) c.self.view_is (Releases-some slots firsts released erased c.self.inside.room id c.self.invariant.0 more grown there)

pub returns-then-is_none : goal.returns-then-is_none
returns-then-is_none c =
    let firsts = c.self.inside.firsts.entries in
    let gone : is_some c.first_of.result ≡ false = search rules in
    let none = none_there (first_in firsts c.args.id) (ap is_some (sym c.first_of.ensures) ∙ gone) in
    subst (λ w. Releases w c.args.id w) c.self.view_is
    (Releases-none c.self.inside.slots.entries firsts c.self.inside.released.keys c.self.inside.erased.keys c.self.inside.room c.args.id c.self.invariant.0 none)

-- an identifier that is among them adds none
stays : (xs : List Identifier) (id q : Identifier) → is_in xs id ≡ true → is_in xs q ≡ cond (same_id id q) true (is_in xs q)
stays xs id q there =
    elim (same_id id q) as (λ b. same_id id q ≡ b → is_in xs q ≡ cond b true (is_in xs q)) [
      | true ↦ λ own. subst (λ x. is_in xs x ≡ true) (same_id-is id q own) there
      | false ↦ λ _. refl
    ] refl

pub returns-then-contains : goal.returns-then-contains
returns-then-contains c =
    let firsts = c.self.inside.firsts.entries in
    let released = c.self.inside.released.keys in
    let some : is_some c.first_of.result ≡ true = search rules in
    let there : is_some (first_in firsts c.args.id) ≡ true = ap is_some (sym c.first_of.ensures) ∙ some in
    let kept : is_in released c.args.id ≡ true = sym (c.if-contains.ensures ∙ list_any-id_eq released c.args.id) in
    subst (λ w. Releases w c.args.id w) c.self.view_is
    (Releases-some c.self.inside.slots.entries firsts released c.self.inside.erased.keys c.self.inside.room c.args.id c.self.invariant.0 released (λ q. stays released c.args.id q kept) there)
