-- The goals of `place_run` that are answered by hand.
use Rattle.std.proofs.Common.{◌≡◌, ◌+◌, ◌-◌, ◌∷◌, List, ℕ, length, refl, sym, ap, subst, ◌∙◌, arith}
use Rattle.std.proofs.lemmas.Str.{chars_past_char, IsUtf8-past_char}
use Rattle.std.specs.FinMap as map
use Rattle.std.specs.Str.{chars, IsUtf8}
use Rattle.std.specs.Str.Iter.{chars_rest}
use Rattle.bg_types.specs.Identifier.{Identifier}
use Rattle.bg_types.specs.OperationSet.{with_operation}
use Rattle.bg_types.specs.WellFormed.{MayFollow}
use Rattle.bg_types.specs.declared.op.Place.TheVariants.{After}
use Rattle.bg_types.specs.declared.op.OpView.TheVariants.{Insert}
use Rattle.rga_tree.specs.Run.{later}
use Rattle.rga_tree.proofs.RunSteps.{drawn, IsUnderWay, begun, under_way, next_new, nothing_left}
use Rattle.rga_tree.proofs.sequence.Sequence.place_run.Goals as goal

pub loop-ch-init : goal.loop-ch-init
loop-ch-init g c =
    let s = g.Self.Sequence.content c.args.self.now in
    let some = g.Self.Sequence.free c.args.self.now in
    let first = c.args.first in
    let front = c.args.parent in
    let all = chars c.args.characters.now in
    let up : first.counter ≡ c.counter-counter.result - 1 + 1 = omega (arith, c.counter-counter.ensures.value, c.counter-counter.ensures.identifier.counter_positive) in
    let own : first ≡ record first { counter = c.counter-counter.result - 1 + 1 } = ap (λ n. record first { counter = n }) up in
    let whole : chars_rest c.chars-left.result ≡ c.args.characters.now = c.chars-left.ensures.rest in
    let rest_is : all ≡ chars (chars_rest c.chars-left.result) = ap chars (sym whole) in
    record {
      utf8 = subst IsUtf8 (sym whole) c.utf8.characters;
      under_way = subst (λ (cs : List ℕ). IsUnderWay s s first (record first { counter = c.counter-counter.result - 1 + 1 }) front front all cs some some) rest_is (subst (λ (id : Identifier). IsUnderWay s s first id front front all all some some) own
          (begun s first front all some c.counter-counter.ensures.identifier c.requires.new c.requires.before c.requires.parent c.requires.counters c.requires.room));
      looked = refl;
    }

pub place-requires-clause-before : goal.place-requires-clause-before
place-requires-clause-before g c =
    let own : Identifier = record { counter = c.loop-ch.counter + 1; site = c.args.first.site } in
    let named : c.unwrap-id.result ≡ own = drawn c.new.result c.unwrap-id.result (c.loop-ch.counter + 1) c.site.result c.args.first.site c.unwrap-id.ensures c.new.ensures.value c.site.ensures.value in
    subst (MayFollow c.loop-ch.parent) (sym named) c.loop-ch.invariant.under_way.follows

pub place-requires-clause-new : goal.place-requires-clause-new
place-requires-clause-new g c =
    let t = g.Self.Sequence.content c.loop-ch.self in
    let own : Identifier = record { counter = c.loop-ch.counter + 1; site = c.args.first.site } in
    let named : c.unwrap-id.result ≡ own = drawn c.new.result c.unwrap-id.result (c.loop-ch.counter + 1) c.site.result c.args.first.site c.unwrap-id.ensures c.new.ensures.value c.site.ensures.value in
    let rest = chars_rest c.loop-ch.left in
    let after = chars_rest c.next.new.self in
    let rest_is : chars rest ≡ c.in-Some.ch ∷ chars after = chars_past_char rest after c.in-Some.ch c.loop-ch.invariant.utf8 c.in-Some.ensures.steps.0 in
    ap (map.contains_key t.ins) named ∙ next_new t own (length (chars rest)) (omega (arith, ap (λ (cs : List ℕ). length cs) rest_is)) c.loop-ch.invariant.under_way.new

pub loop-ch-preserved : goal.loop-ch-preserved
loop-ch-preserved g c =
    let s = g.Self.Sequence.content c.args.self.now in
    let t = g.Self.Sequence.content c.loop-ch.self in
    let u = g.Self.Sequence.content c.place.new.self in
    let some = g.Self.Sequence.free c.args.self.now in
    let left = g.Self.Sequence.free c.loop-ch.self in
    let fewer = g.Self.Sequence.free c.place.new.self in
    let first = c.args.first in
    let own : Identifier = record { counter = c.loop-ch.counter + 1; site = first.site } in
    let front = c.args.parent in
    let parent = c.loop-ch.parent in
    let ch = c.in-Some.ch in
    let all = chars c.args.characters.now in
    let rest = chars_rest c.loop-ch.left in
    let after = chars_rest c.next.new.self in
    let now = c.loop-ch.invariant in
    let is = c.in-Some.ensures.steps.0 in
    let rest_is : chars rest ≡ ch ∷ chars after = chars_past_char rest after ch now.utf8 is in
    let named : c.unwrap-id.result ≡ own = drawn c.new.result c.unwrap-id.result (c.loop-ch.counter + 1) c.site.result c.args.first.site c.unwrap-id.ensures c.new.ensures.value c.site.ensures.value in
    let placed = c.place.ensures.content ∙ ap (λ (id : Identifier). with_operation t (Insert id parent ch)) named in
    let later_on = under_way s t u first own front parent all (chars after) ch some left fewer (subst (λ (cs : List ℕ). IsUnderWay s t first own front parent all cs some left) rest_is now.under_way) placed c.place.ensures.room in
    record {
      utf8 = IsUtf8-past_char rest after ch now.utf8 is;
      under_way = subst (λ (id : Identifier). IsUnderWay s u first (later own 1) front (After id) all (chars after) some fewer) (sym named) later_on;
      looked = c.place.ensures.looked ∙ now.looked;
    }

pub returns-clause-content : goal.returns-clause-content
returns-clause-content g c =
    let s = g.Self.Sequence.content c.args.self.now in
    let t = g.Self.Sequence.content c.loop-ch.self in
    let some = g.Self.Sequence.free c.args.self.now in
    let left = g.Self.Sequence.free c.loop-ch.self in
    let first = c.args.first in
    let own : Identifier = record { counter = c.loop-ch.counter + 1; site = first.site } in
    let all = chars c.args.characters.now in
    let none = nothing_left (chars_rest c.loop-ch.left) c.in_default.ensures.steps.0.0 in
    let end = subst (λ (cs : List ℕ). IsUnderWay s t first own c.args.parent c.loop-ch.parent all cs some left) none c.loop-ch.invariant.under_way in
    end.set_is

pub returns-clause-room : goal.returns-clause-room
returns-clause-room g c =
    let none = nothing_left (chars_rest c.loop-ch.left) c.in_default.ensures.steps.0.0 in
    omega (arith, ap (λ (cs : List ℕ). length cs) none, c.loop-ch.invariant.under_way.room)
