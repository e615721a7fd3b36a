-- The goals of `unlink` that are answered by hand.
use Rattle.std.proofs.Common.{◌≡◌, ◌∷◌, [], ◌++◌, Bool, true, false, not, ◌&&◌, List, Option, None, Some, sym, ap, subst, ◌∙◌, refl, true≢false, is_some, cond, arith, length, length-append, ◌<◌, MutBor}
use Rattle.std.specs.Prelude.{IfSome, IsSome}
use Rattle.std.specs.Option.{option_copied_mut, option_to_list}
use Rattle.std.proofs.lemmas.List.{same_from_push}
use Rattle.bg_types.specs.Identifier.{Identifier, same_id}
use Rattle.pending_ops.specs.Chains.{first_in, is_in}
use Rattle.pending_ops.proofs.Tables.{lookup-id_eq, lookup-updated, is_in-updated, one_less, one_less_at_most}
use Rattle.pending_ops.proofs.chains.unlink.Goals as goal

some_of : {X : Type 0} (r : Option (MutBor X)) → is_some (option_copied_mut r) ≡ true → IsSome r
some_of None h = h
some_of (Some x) h = refl

pub unwrap-requires : goal.unwrap-requires
unwrap-requires c = some_of c.get_mut.result (ap is_some c.get_mut.ensures.value ∙ ap is_some (lookup-id_eq c.args.firsts.now.entries c.args.parent) ∙ c.requires.first)

pub returns-in-Some-clause-first : goal.returns-in-Some-clause-first
returns-in-Some-clause-first c = λ p.
    let there = ap is_some (lookup-id_eq c.args.firsts.now.entries c.args.parent) ∙ c.requires.first in
    lookup-updated c.args.firsts.now.entries (c.get_mut.follows.lender c.in-Some.id).entries c.args.parent (Some c.in-Some.id) ((c.get_mut.follows.holds c.in-Some.id).3 there).0 p
    ∙ ap (λ o. cond (same_id c.args.parent p) o (first_in c.args.firsts.now.entries p)) (sym c.in-Some.is)

pub returns-in-Some-clause-room : goal.returns-in-Some-clause-room
returns-in-Some-clause-room c = λ n room. let same = (c.get_mut.follows.holds c.in-Some.id).2 in omega arith

pub returns-in-None-clause-first : goal.returns-in-None-clause-first
returns-in-None-clause-first c = λ p.
    let updates = rw (c.swap_remove_index.ensures.entry ∙ c.requires.at.1) at c.swap_remove_index.ensures.updates in
    lookup-updated c.args.firsts.now.entries c.swap_remove_index.new.self.entries c.args.parent None updates.0 p
    ∙ ap (λ o. cond (same_id c.args.parent p) o (first_in c.args.firsts.now.entries p)) (sym c.in-None.is)

-- what a pop from a list that ends in x says, it says of x
popped : (old new before : List Identifier) (x : Identifier) (r : Option Identifier) (P : Identifier → Type 0) → old ≡ new ++ option_to_list r → old ≡ before ++ x ∷ []
    → is_some r ≡ true → IfSome r P → P x
popped old new before x None P left last some h = absurd (true≢false (sym some))
popped old new before x (Some y) P left last some h = subst P (same_from_push new before y x (sym left ∙ last)).1 h

as_and : (a b : Bool) → cond a false b ≡ (not a && b)
as_and true b = refl
as_and false b = refl

not_empty : (xs before : List Identifier) (x : Identifier) → xs ≡ before ++ x ∷ [] → 0 < length xs
not_empty xs before x e = let n = ap length e in omega (arith, n, length-append before (x ∷ []))

pub returns-in-None-clause-emptied : goal.returns-in-None-clause-emptied
returns-in-None-clause-emptied c = λ none p.
    let parent = c.args.parent in
    let old = c.args.released.now.keys in
    let new = c.pop.new.self.keys in
    let last = c.requires.last in
    let some = c.pop.ensures.found.1 (not_empty old last.0 parent last.1) in
    let gone = (popped old new last.0 parent c.pop.result _ c.pop.ensures.keys last.1 some c.pop.ensures.updates).0 in
    is_in-updated old new parent false gone p ∙ as_and (same_id parent p) (is_in old p)

pub returns-in-None-clause-room : goal.returns-in-None-clause-room
returns-in-None-clause-room c = λ n room.
    let removed = ap is_some (c.swap_remove_index.ensures.entry ∙ c.requires.at.1) in
    let first = one_less (is_some c.swap_remove_index.result) (length c.swap_remove_index.new.self.entries) (length c.args.firsts.now.entries) removed c.swap_remove_index.ensures.len in
    let last = one_less_at_most (is_some c.pop.result) (length c.pop.new.self.keys) (length c.args.released.now.keys) c.pop.ensures.len in
    let spare = c.pop.ensures.room.0 in
    omega arith
