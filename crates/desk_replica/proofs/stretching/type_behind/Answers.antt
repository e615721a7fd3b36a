-- The goals of `type_behind` that are answered by hand.
use Rattle.std.proofs.Common.{◌≡◌, ◌<◌, ◌+◌, ◌++◌, List, ℕ, zero, suc, false, length, sym, ap, subst, ◌∙◌, arith}
use Rattle.std.specs.Prelude.{All, nat_eq}
use Rattle.std.specs.Str.{chars}
use Rattle.std.proofs.lemmas.Bool.{eqb-true}
use Rattle.std.proofs.lemmas.List.{append-nil}
use Rattle.std.proofs.lemmas.List.Elements.{All-nil}
use Rattle.bg_types.specs.Identifier.{Identifier}
use Rattle.bg_types.specs.WellFormed.{IsWellFormed, MayFollow}
use Rattle.rga_tree.proofs.Interface.{nothing_left}
use Rattle.desk_replica.specs.Replacement.{insertions}
use Rattle.desk_replica.specs.Merging.{with_operations}
use Rattle.desk_replica.proofs.Stretches.{newest_new, some_characters}
use Rattle.desk_replica.proofs.Typing.{at_some}
use Rattle.desk_replica.proofs.stretching.type_behind.Goals as goal

-- a number that isn't 0
is_some : (n : ℕ) → nat_eq n 0 ≡ false → 0 < n
is_some zero h = absurd cc
is_some (suc n) h = omega arith

pub overflow_add-counter : goal.overflow_add-counter
overflow_add-counter g c =
    let some = some_characters c.args.characters.now c.utf8.characters (is_some (length c.args.characters.now) (sym c.is_empty.ensures ∙ c.if-is_empty.false)) in
    omega (arith, c.requires.counters, some)

pub place_run-requires-clause-before : goal.place_run-requires-clause-before
place_run-requires-clause-before g c =
    let own : Identifier = record { counter = c.args.counter + 1; site = c.args.site } in
    let named : c.unwrap-first.result ≡ own = at_some c.new.result c.unwrap-first.result (λ x. x ≡ own) c.unwrap-first.ensures c.new.ensures.value in
    subst (MayFollow c.args.parent) (sym named) c.requires.follows

pub place_run-requires-clause-new : goal.place_run-requires-clause-new
place_run-requires-clause-new g c =
    let own : Identifier = record { counter = c.args.counter + 1; site = c.args.site } in
    let named : c.unwrap-first.result ≡ own = at_some c.new.result c.unwrap-first.result (λ x. x ≡ own) c.unwrap-first.ensures c.new.ensures.value in
    newest_new (g.S.Sequence.content c.args.seq.now) c.unwrap-first.result (length (chars c.args.characters.now)) (omega (arith, c.requires.new, ap (λ (id : Identifier). id.counter) named))

pub place_run-requires-clause-counters : goal.place_run-requires-clause-counters
place_run-requires-clause-counters g c =
    let own : Identifier = record { counter = c.args.counter + 1; site = c.args.site } in
    let named : c.unwrap-first.result ≡ own = at_some c.new.result c.unwrap-first.result (λ x. x ≡ own) c.unwrap-first.ensures c.new.ensures.value in
    omega (arith, c.requires.counters, ap (λ (id : Identifier). id.counter) named)

pub list_run-requires-clause-counters : goal.list_run-requires-clause-counters
list_run-requires-clause-counters g c =
    let own : Identifier = record { counter = c.args.counter + 1; site = c.args.site } in
    let named : c.unwrap-first.result ≡ own = at_some c.new.result c.unwrap-first.result (λ x. x ≡ own) c.unwrap-first.ensures c.new.ensures.value in
    omega (arith, c.requires.counters, ap (λ (id : Identifier). id.counter) named)

pub list_run-requires-clause-follows : goal.list_run-requires-clause-follows
list_run-requires-clause-follows g c =
    let own : Identifier = record { counter = c.args.counter + 1; site = c.args.site } in
    let named : c.unwrap-first.result ≡ own = at_some c.new.result c.unwrap-first.result (λ x. x ≡ own) c.unwrap-first.ensures c.new.ensures.value in
    subst (MayFollow c.args.parent) (sym named) c.requires.follows

pub returns-clause-made : goal.returns-clause-made
returns-clause-made g c =
    let own : Identifier = record { counter = c.args.counter + 1; site = c.args.site } in
    let named : c.unwrap-first.result ≡ own = at_some c.new.result c.unwrap-first.result (λ x. x ≡ own) c.unwrap-first.ensures c.new.ensures.value in
    c.list_run.ensures.made ∙ ap (λ (id : Identifier). c.args.made.now.items ++ insertions id c.args.parent (chars c.args.characters.now)) named

pub returns-clause-well_formed : goal.returns-clause-well_formed
returns-clause-well_formed g c =
    let own : Identifier = record { counter = c.args.counter + 1; site = c.args.site } in
    let named : c.unwrap-first.result ≡ own = at_some c.new.result c.unwrap-first.result (λ x. x ≡ own) c.unwrap-first.ensures c.new.ensures.value in
    subst (λ (id : Identifier). All IsWellFormed (insertions id c.args.parent (chars c.args.characters.now))) named c.list_run.ensures.well_formed

pub returns-clause-content : goal.returns-clause-content
returns-clause-content g c =
    let own : Identifier = record { counter = c.args.counter + 1; site = c.args.site } in
    let named : c.unwrap-first.result ≡ own = at_some c.new.result c.unwrap-first.result (λ x. x ≡ own) c.unwrap-first.ensures c.new.ensures.value in
    c.place_run.ensures.content ∙ ap (λ (id : Identifier). with_operations (g.S.Sequence.content c.args.seq.now) (insertions id c.args.parent (chars c.args.characters.now))) named

pub returns-then-is_empty-clause-made : goal.returns-then-is_empty-clause-made
returns-then-is_empty-clause-made g c =
    let own : Identifier = record { counter = c.args.counter + 1; site = c.args.site } in
    let made = c.args.made.now.items in
    let none = nothing_left c.args.characters.now (eqb-true (length c.args.characters.now) 0 (sym c.is_empty.ensures ∙ c.if-is_empty.true)) in
    sym (append-nil made) ∙ ap (λ cs. made ++ insertions own c.args.parent cs) (sym none)

pub returns-then-is_empty-clause-well_formed : goal.returns-then-is_empty-clause-well_formed
returns-then-is_empty-clause-well_formed g c =
    let own : Identifier = record { counter = c.args.counter + 1; site = c.args.site } in
    let none = nothing_left c.args.characters.now (eqb-true (length c.args.characters.now) 0 (sym c.is_empty.ensures ∙ c.if-is_empty.true)) in
    subst (λ (cs : List ℕ). All IsWellFormed (insertions own c.args.parent cs)) (sym none) (All-nil IsWellFormed)

pub returns-then-is_empty-clause-content : goal.returns-then-is_empty-clause-content
returns-then-is_empty-clause-content g c =
    let own : Identifier = record { counter = c.args.counter + 1; site = c.args.site } in
    let none = nothing_left c.args.characters.now (eqb-true (length c.args.characters.now) 0 (sym c.is_empty.ensures ∙ c.if-is_empty.true)) in
    ap (λ cs. with_operations (g.S.Sequence.content c.args.seq.now) (insertions own c.args.parent cs)) (sym none)

pub returns-then-is_empty-clause-room : goal.returns-then-is_empty-clause-room
returns-then-is_empty-clause-room g c =
    let none = nothing_left c.args.characters.now (eqb-true (length c.args.characters.now) 0 (sym c.is_empty.ensures ∙ c.if-is_empty.true)) in
    omega (arith, ap (λ (cs : List ℕ). length cs) none)
