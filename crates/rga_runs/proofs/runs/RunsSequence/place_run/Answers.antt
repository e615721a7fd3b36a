-- The goals of `place_run` that are answered by hand.
use Rattle.std.proofs.Common.{◌≡◌, ◌+◌, ◌-◌, ◌++◌, ◌∷◌, List, ℕ, suc, length, take, drop, sym, ap, subst, ◌∙◌, arith}
use Rattle.std.proofs.lemmas.List.{take-append-drop, length-take-le, length-drop}
use Rattle.std.proofs.lemmas.Str.{chars_past_char, IsUtf8-past_char}
use Rattle.std.specs.Str.{chars, IsUtf8}
use Rattle.std.specs.Str.Iter.{chars_rest}
use Rattle.bg_types.specs.Identifier.{Identifier}
use Rattle.bg_types.specs.WellFormed.{MayFollow}
use Rattle.bg_types.specs.declared.op.Place.TheVariants.{After}
use Rattle.rga_tree.specs.Row.{operations_of}
use Rattle.rga_tree.specs.Run.{later, insertions, with_operations, AreNew}
use Rattle.rga_tree.proofs.Interface.{drawn, IsUnderWay, begun, some_under_way, nothing_left}
use Rattle.rga_runs.specs.Stretches.{elements_in}
use Rattle.rga_runs.specs.Indexed.{stretches_in}
use Rattle.rga_runs.proofs.runs.RunsSequence.place_run.Goals as goal

pub loop-ch-init : goal.loop-ch-init
loop-ch-init c =
    let s = operations_of (elements_in c.args.self.now.characters.items (stretches_in c.args.self.now.row)) in
    let some = c.args.self.now.room in
    let first = c.args.first in
    let front = c.args.parent in
    let all = chars c.args.characters.now in
    let up : first.counter ≡ c.counter-counter.result - 1 + 1 = omega (arith, c.counter-counter.ensures.value, c.counter-counter.ensures.identifier.counter_positive) in
    let own : first ≡ record first { counter = c.counter-counter.result - 1 + 1 } = ap (λ n. record first { counter = n }) up in
    let whole : chars_rest c.chars-left.result ≡ c.args.characters.now = c.chars-left.ensures.rest in
    let rest_is : all ≡ chars (chars_rest c.chars-left.result) = ap chars (sym whole) in
    record {
      utf8 = subst IsUtf8 (sym whole) c.utf8.characters;
      under_way = subst (λ (cs : List ℕ). IsUnderWay s s first (record first { counter = c.counter-counter.result - 1 + 1 }) front front all cs some some) rest_is (subst (λ (id : Identifier). IsUnderWay s s first id front front all all some some) own
          (begun s first front all some c.counter-counter.ensures.identifier c.requires.new c.requires.before c.requires.parent c.requires.counters c.requires.room));
    }

pub place_stretch-requires-clause-utf8 : goal.place_stretch-requires-clause-utf8
place_stretch-requires-clause-utf8 c = IsUtf8-past_char (chars_rest c.loop-ch.left) (chars_rest c.next.new.self) c.in-Some.ch c.loop-ch.invariant.utf8 c.in-Some.ensures.steps.0

pub place_stretch-requires-clause-before : goal.place_stretch-requires-clause-before
place_stretch-requires-clause-before c =
    let s = operations_of (elements_in c.args.self.now.characters.items (stretches_in c.args.self.now.row)) in
    let t = operations_of (elements_in c.loop-ch.self.characters.items (stretches_in c.loop-ch.self.row)) in
    let some = c.args.self.now.room in
    let left = c.loop-ch.self.room in
    let first = c.args.first in
    let own : Identifier = record { counter = c.loop-ch.counter + 1; site = first.site } in
    let front = c.args.parent in
    let parent = c.loop-ch.parent in
    let all = chars c.args.characters.now in
    let rest = chars_rest c.loop-ch.left in
    let ch = c.in-Some.ch in
    let after = chars_rest c.next.new.self in
    let now = c.loop-ch.invariant in
    let is = c.in-Some.ensures.steps.0 in
    let rest_is : chars rest ≡ ch ∷ chars after = chars_past_char rest after ch now.utf8 is in
    let here = subst (λ (cs : List ℕ). IsUnderWay s t first own front parent all cs some left) rest_is now.under_way in
    let named : c.unwrap-id.result ≡ own = drawn c.new.result c.unwrap-id.result (c.loop-ch.counter + 1) c.site.result first.site c.unwrap-id.ensures c.new.ensures.value c.site.ensures.value in
    subst (MayFollow parent) (sym named) here.follows

pub place_stretch-requires-clause-new : goal.place_stretch-requires-clause-new
place_stretch-requires-clause-new c =
    let s = operations_of (elements_in c.args.self.now.characters.items (stretches_in c.args.self.now.row)) in
    let t = operations_of (elements_in c.loop-ch.self.characters.items (stretches_in c.loop-ch.self.row)) in
    let some = c.args.self.now.room in
    let left = c.loop-ch.self.room in
    let first = c.args.first in
    let own : Identifier = record { counter = c.loop-ch.counter + 1; site = first.site } in
    let front = c.args.parent in
    let parent = c.loop-ch.parent in
    let all = chars c.args.characters.now in
    let rest = chars_rest c.loop-ch.left in
    let ch = c.in-Some.ch in
    let after = chars_rest c.next.new.self in
    let now = c.loop-ch.invariant in
    let is = c.in-Some.ensures.steps.0 in
    let rest_is : chars rest ≡ ch ∷ chars after = chars_past_char rest after ch now.utf8 is in
    let here = subst (λ (cs : List ℕ). IsUnderWay s t first own front parent all cs some left) rest_is now.under_way in
    let named : c.unwrap-id.result ≡ own = drawn c.new.result c.unwrap-id.result (c.loop-ch.counter + 1) c.site.result first.site c.unwrap-id.ensures c.new.ensures.value c.site.ensures.value in
    subst (λ (id : Identifier). AreNew t id (length (chars after) + 1)) (sym named) (λ k less. here.new k (omega (arith, less)))

pub place_stretch-requires-clause-counters : goal.place_stretch-requires-clause-counters
place_stretch-requires-clause-counters c =
    let s = operations_of (elements_in c.args.self.now.characters.items (stretches_in c.args.self.now.row)) in
    let t = operations_of (elements_in c.loop-ch.self.characters.items (stretches_in c.loop-ch.self.row)) in
    let some = c.args.self.now.room in
    let left = c.loop-ch.self.room in
    let first = c.args.first in
    let own : Identifier = record { counter = c.loop-ch.counter + 1; site = first.site } in
    let front = c.args.parent in
    let parent = c.loop-ch.parent in
    let all = chars c.args.characters.now in
    let rest = chars_rest c.loop-ch.left in
    let ch = c.in-Some.ch in
    let after = chars_rest c.next.new.self in
    let now = c.loop-ch.invariant in
    let is = c.in-Some.ensures.steps.0 in
    let rest_is : chars rest ≡ ch ∷ chars after = chars_past_char rest after ch now.utf8 is in
    let here = subst (λ (cs : List ℕ). IsUnderWay s t first own front parent all cs some left) rest_is now.under_way in
    let named : c.unwrap-id.result ≡ own = drawn c.new.result c.unwrap-id.result (c.loop-ch.counter + 1) c.site.result first.site c.unwrap-id.ensures c.new.ensures.value c.site.ensures.value in
    omega (arith, here.counters, ap (λ (id : Identifier). id.counter) named)

pub place_stretch-requires-clause-room : goal.place_stretch-requires-clause-room
place_stretch-requires-clause-room c =
    let s = operations_of (elements_in c.args.self.now.characters.items (stretches_in c.args.self.now.row)) in
    let t = operations_of (elements_in c.loop-ch.self.characters.items (stretches_in c.loop-ch.self.row)) in
    let some = c.args.self.now.room in
    let left = c.loop-ch.self.room in
    let first = c.args.first in
    let own : Identifier = record { counter = c.loop-ch.counter + 1; site = first.site } in
    let front = c.args.parent in
    let parent = c.loop-ch.parent in
    let all = chars c.args.characters.now in
    let rest = chars_rest c.loop-ch.left in
    let ch = c.in-Some.ch in
    let after = chars_rest c.next.new.self in
    let now = c.loop-ch.invariant in
    let is = c.in-Some.ensures.steps.0 in
    let rest_is : chars rest ≡ ch ∷ chars after = chars_past_char rest after ch now.utf8 is in
    let here = subst (λ (cs : List ℕ). IsUnderWay s t first own front parent all cs some left) rest_is now.under_way in
    let named : c.unwrap-id.result ≡ own = drawn c.new.result c.unwrap-id.result (c.loop-ch.counter + 1) c.site.result first.site c.unwrap-id.ensures c.new.ensures.value c.site.ensures.value in
    omega (arith, here.paid)

pub overflow_add-counter-in-Some : goal.overflow_add-counter-in-Some
overflow_add-counter-in-Some c =
    let s = operations_of (elements_in c.args.self.now.characters.items (stretches_in c.args.self.now.row)) in
    let t = operations_of (elements_in c.loop-ch.self.characters.items (stretches_in c.loop-ch.self.row)) in
    let some = c.args.self.now.room in
    let left = c.loop-ch.self.room in
    let first = c.args.first in
    let own : Identifier = record { counter = c.loop-ch.counter + 1; site = first.site } in
    let front = c.args.parent in
    let parent = c.loop-ch.parent in
    let all = chars c.args.characters.now in
    let rest = chars_rest c.loop-ch.left in
    let ch = c.in-Some.ch in
    let after = chars_rest c.next.new.self in
    let now = c.loop-ch.invariant in
    let is = c.in-Some.ensures.steps.0 in
    let rest_is : chars rest ≡ ch ∷ chars after = chars_past_char rest after ch now.utf8 is in
    let here = subst (λ (cs : List ℕ). IsUnderWay s t first own front parent all cs some left) rest_is now.under_way in
    omega (arith, here.counters, c.place_stretch.ensures.within)

pub overflow_add-counter-in-Some-2 : goal.overflow_add-counter-in-Some-2
overflow_add-counter-in-Some-2 c =
    let s = operations_of (elements_in c.args.self.now.characters.items (stretches_in c.args.self.now.row)) in
    let t = operations_of (elements_in c.loop-ch.self.characters.items (stretches_in c.loop-ch.self.row)) in
    let some = c.args.self.now.room in
    let left = c.loop-ch.self.room in
    let first = c.args.first in
    let own : Identifier = record { counter = c.loop-ch.counter + 1; site = first.site } in
    let front = c.args.parent in
    let parent = c.loop-ch.parent in
    let all = chars c.args.characters.now in
    let rest = chars_rest c.loop-ch.left in
    let ch = c.in-Some.ch in
    let after = chars_rest c.next.new.self in
    let now = c.loop-ch.invariant in
    let is = c.in-Some.ensures.steps.0 in
    let rest_is : chars rest ≡ ch ∷ chars after = chars_past_char rest after ch now.utf8 is in
    let here = subst (λ (cs : List ℕ). IsUnderWay s t first own front parent all cs some left) rest_is now.under_way in
    omega (arith, here.counters, c.place_stretch.ensures.within)

pub loop-ch-preserved : goal.loop-ch-preserved
loop-ch-preserved c =
    let s = operations_of (elements_in c.args.self.now.characters.items (stretches_in c.args.self.now.row)) in
    let t = operations_of (elements_in c.loop-ch.self.characters.items (stretches_in c.loop-ch.self.row)) in
    let some = c.args.self.now.room in
    let left = c.loop-ch.self.room in
    let first = c.args.first in
    let own : Identifier = record { counter = c.loop-ch.counter + 1; site = first.site } in
    let front = c.args.parent in
    let parent = c.loop-ch.parent in
    let all = chars c.args.characters.now in
    let rest = chars_rest c.loop-ch.left in
    let ch = c.in-Some.ch in
    let after = chars_rest c.next.new.self in
    let now = c.loop-ch.invariant in
    let is = c.in-Some.ensures.steps.0 in
    let rest_is : chars rest ≡ ch ∷ chars after = chars_past_char rest after ch now.utf8 is in
    let here = subst (λ (cs : List ℕ). IsUnderWay s t first own front parent all cs some left) rest_is now.under_way in
    let named : c.unwrap-id.result ≡ own = drawn c.new.result c.unwrap-id.result (c.loop-ch.counter + 1) c.site.result first.site c.unwrap-id.ensures c.new.ensures.value c.site.ensures.value in
    let u = operations_of (elements_in c.place_stretch.new.self.characters.items (stretches_in c.place_stretch.new.self.row)) in
    let fewer = c.place_stretch.new.self.room in
    let m = c.place_stretch.result in
    let cs = take m (chars after) in
    let behind = drop m (chars after) in
    let many : length cs ≡ m = length-take-le m (chars after) c.place_stretch.ensures.within in
    let parted : ch ∷ chars after ≡ (ch ∷ cs) ++ behind = ap (λ l. ch ∷ l) (sym (take-append-drop m (chars after))) in
    let now_parted = subst (λ (l : List ℕ). IsUnderWay s t first own front parent all l some left) parted here in
    let placed = c.place_stretch.ensures.content ∙ ap (λ (id : Identifier). with_operations t (insertions id parent (ch ∷ cs))) named in
    let later_on = some_under_way (ch ∷ cs) behind s t u first own front parent all some left fewer now_parted placed (omega (arith, many, c.place_stretch.ensures.room)) in
    let end : Identifier = record { counter = c.loop-ch.counter + (1 + m); site = first.site } in
    let last_named : c.unwrap-last.result ≡ end = drawn c.new-in-Some.result c.unwrap-last.result (c.loop-ch.counter + (1 + m)) c.site-in-Some.result first.site c.unwrap-last.ensures c.new-in-Some.ensures.value c.site-in-Some.ensures.value in
    let last_at : own.counter + length cs ≡ end.counter = omega (arith, many) in
    let last_is : later own (length cs) ≡ c.unwrap-last.result = ap (λ n. record own { counter = n }) last_at ∙ sym last_named in
    let next_at : own.counter + suc (length cs) ≡ end.counter + 1 = omega (arith, many) in
    let next_is : later own (suc (length cs)) ≡ later end 1 = ap (λ n. record own { counter = n }) next_at in
    record {
      utf8 = c.place_stretch.ensures.utf8;
      under_way = subst (λ (l : List ℕ). IsUnderWay s u first (later end 1) front (After c.unwrap-last.result) all l some fewer) (sym c.place_stretch.ensures.left)
          (subst (λ (id : Identifier). IsUnderWay s u first (later end 1) front (After id) all behind some fewer) last_is
          (subst (λ (id : Identifier). IsUnderWay s u first id front (After (later own (length cs))) all behind some fewer) next_is later_on));
    }

pub loop-ch-smaller : goal.loop-ch-smaller
loop-ch-smaller c =
    let rest = chars_rest c.loop-ch.left in
    let after = chars_rest c.next.new.self in
    let rest_is : chars rest ≡ c.in-Some.ch ∷ chars after = chars_past_char rest after c.in-Some.ch c.loop-ch.invariant.utf8 c.in-Some.ensures.steps.0 in
    omega (arith, ap (λ (l : List ℕ). length l) rest_is, ap (λ (l : List ℕ). length l) c.place_stretch.ensures.left, length-drop c.place_stretch.result (chars after))

pub returns-clause-content : goal.returns-clause-content
returns-clause-content c =
    let s = operations_of (elements_in c.args.self.now.characters.items (stretches_in c.args.self.now.row)) in
    let t = operations_of (elements_in c.loop-ch.self.characters.items (stretches_in c.loop-ch.self.row)) in
    let some = c.args.self.now.room in
    let left = c.loop-ch.self.room in
    let first = c.args.first in
    let own : Identifier = record { counter = c.loop-ch.counter + 1; site = first.site } in
    let front = c.args.parent in
    let parent = c.loop-ch.parent in
    let all = chars c.args.characters.now in
    let rest = chars_rest c.loop-ch.left in
    let none = nothing_left rest c.in_default.ensures.steps.0.0 in
    let done = subst (λ (cs : List ℕ). IsUnderWay s t first own front parent all cs some left) none c.loop-ch.invariant.under_way in
    done.set_is

pub returns-clause-room : goal.returns-clause-room
returns-clause-room c =
    let none = nothing_left (chars_rest c.loop-ch.left) c.in_default.ensures.steps.0.0 in
    omega (arith, ap (λ (cs : List ℕ). length cs) none, c.loop-ch.invariant.under_way.room)
