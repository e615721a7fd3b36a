-- The goals of `list_run` that are answered by hand.
use Rattle.std.proofs.Common.{◌≡◌, ◌≤◌, ◌-◌, ◌+◌, ◌++◌, ◌∷◌, [], List, ℕ, length, refl, sym, ap, subst, ◌∙◌, arith}
use Rattle.std.proofs.lemmas.List.{append-nil}
use Rattle.std.proofs.lemmas.List.Elements.{All-from_recursion}
use Rattle.std.proofs.lemmas.Str.{chars_past_char, IsUtf8-past_char}
use Rattle.std.specs.Prelude.{vec_len, vec_capacity}
use Rattle.std.specs.Str.{chars, IsUtf8}
use Rattle.std.specs.Str.Iter.{chars_rest}
use Rattle.bg_types.specs.Identifier.{Identifier}
use Rattle.bg_types.specs.WellFormed.{IsWellFormed}
use Rattle.bg_types.specs.declared.op.Place.TheVariants.{After}
use Rattle.bg_types.specs.declared.op.OpView.{OpView}
use Rattle.bg_types.specs.declared.op.OpView.TheVariants.{Insert}
use Rattle.rga_tree.specs.Run.{later}
use Rattle.rga_tree.proofs.Interface.{drawn, nothing_left}
use Rattle.desk_replica.specs.Replacement.{insertions}
use Rattle.desk_replica.proofs.Stretches.{IsUnderWay, under_way}
use Rattle.desk_replica.proofs.Typing.{at_some}
use Rattle.desk_replica.proofs.stretching.list_run.Goals as goal

pub loop-ch-init : goal.loop-ch-init
loop-ch-init c =
    let first = c.args.first in
    let front = c.args.front.now in
    let made = c.args.made.now.items in
    let all = chars c.args.characters.now in
    let up : first.counter ≡ c.counter-counter.result - 1 + 1 = omega (arith, c.counter-counter.ensures.value, c.counter-counter.ensures.identifier.counter_positive) in
    let own : first ≡ record first { counter = c.counter-counter.result - 1 + 1 } = ap (λ n. record first { counter = n }) up in
    let whole : chars_rest c.chars-left.result ≡ c.args.characters.now = c.chars-left.ensures.rest in
    let rest_is : all ≡ chars (chars_rest c.chars-left.result) = ap chars (sym whole) in
    record {
      utf8 = subst IsUtf8 (sym whole) c.utf8.characters;
      under_way = subst (λ (cs : List ℕ). IsUnderWay first (record first { counter = c.counter-counter.result - 1 + 1 }) front front made made all cs) rest_is (subst (λ (id : Identifier). IsUnderWay first id front front made made all all) own
          (record { listed_is = refl; formed = λ h. h; follows = c.requires.follows; counters = c.requires.counters }));
      listed = subst (λ (cs : List ℕ). vec_len c.args.made.now + length cs ≤ vec_capacity c.args.made.now) rest_is c.requires.listed;
    }

pub loop-ch-preserved : goal.loop-ch-preserved
loop-ch-preserved c =
    let first = c.args.first in
    let own : Identifier = record { counter = c.loop-ch.counter + 1; site = first.site } in
    let front = c.args.front.now in
    let parent = c.loop-ch.parent in
    let ch = c.in-Some.ch in
    let made = c.args.made.now.items in
    let told = c.loop-ch.made.items in
    let more = c.push_reserved.new.self.items in
    let all = chars c.args.characters.now in
    let rest = chars_rest c.loop-ch.left in
    let after = chars_rest c.next.new.self in
    let now = c.loop-ch.invariant in
    let is = c.in-Some.ensures.steps.0 in
    let rest_is : chars rest ≡ ch ∷ chars after = chars_past_char rest after ch now.utf8 is in
    let named : c.unwrap-id.result ≡ own = drawn c.new.result c.unwrap-id.result (c.loop-ch.counter + 1) c.site.result first.site c.unwrap-id.ensures c.new.ensures.value c.site.ensures.value in
    let op : c.unwrap.result ≡ Insert own parent ch = at_some c.insert.result c.unwrap.result (λ x. x ≡ Insert c.unwrap-id.result parent ch) c.unwrap.ensures c.insert.ensures.value ∙ ap (λ (id : Identifier). Insert id parent ch) named in
    let formed : IsWellFormed (Insert own parent ch) = subst IsWellFormed op (at_some c.insert.result c.unwrap.result IsWellFormed c.unwrap.ensures c.insert.ensures.well_formed) in
    let here = subst (λ (cs : List ℕ). IsUnderWay first own front parent made told all cs) rest_is now.under_way in
    let later_on = under_way first own front parent made told more all (chars after) ch here (c.push_reserved.ensures.items ∙ ap (λ (x : OpView). told ++ x ∷ []) op) formed in
    record {
      utf8 = IsUtf8-past_char rest after ch now.utf8 is;
      under_way = subst (λ (id : Identifier). IsUnderWay first (later own 1) front (After id) made more all (chars after)) (sym named) later_on;
      listed = omega (arith, ap (λ (cs : List ℕ). length cs) rest_is, now.listed, c.push_reserved.ensures.len, c.push_reserved.ensures.capacity);
    }

pub returns-clause-made : goal.returns-clause-made
returns-clause-made c =
    let first = c.args.first in
    let own : Identifier = record { counter = c.loop-ch.counter + 1; site = first.site } in
    let made = c.args.made.now.items in
    let told = c.loop-ch.made.items in
    let all = chars c.args.characters.now in
    let none = nothing_left (chars_rest c.loop-ch.left) c.in_default.ensures.steps.0.0 in
    let end = subst (λ (cs : List ℕ). IsUnderWay first own c.args.front.now c.loop-ch.parent made told all cs) none c.loop-ch.invariant.under_way in
    sym (append-nil told) ∙ end.listed_is

pub returns-clause-well_formed : goal.returns-clause-well_formed
returns-clause-well_formed c =
    let first = c.args.first in
    let own : Identifier = record { counter = c.loop-ch.counter + 1; site = first.site } in
    let made = c.args.made.now.items in
    let told = c.loop-ch.made.items in
    let all = chars c.args.characters.now in
    let none = nothing_left (chars_rest c.loop-ch.left) c.in_default.ensures.steps.0.0 in
    let end = subst (λ (cs : List ℕ). IsUnderWay first own c.args.front.now c.loop-ch.parent made told all cs) none c.loop-ch.invariant.under_way in
    All-from_recursion IsWellFormed (insertions first c.args.front.now all) (end.formed tt)
