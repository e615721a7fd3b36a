-- The search goes back from the last type.
use Rattle.std.proofs.Common.{◌≡◌, ◌∙◌, ◌+◌, ◌-◌, ◌<◌, ap, sym, length, take, arith}
use Rattle.std.specs.Option.{option_or}
use Rattle.std.proofs.Math.Seq.{take-length}
use Rattle.bg_types.specs.declared.class.Bidi.TheVariants.{L}
use Rattle.bracket_pairs.specs.N0.{last_strong}
use Rattle.bracket_pairs.proofs.PairSteps.{last-more, strong-some, strong-none}
use Rattle.bracket_pairs.proofs.n0.last_strong.Goals as goal

pub loop-place-init : goal.loop-place-init
loop-place-init c = ap (last_strong c.args.before) (take-length c.args.types.now)

pub returns-then-is_some : goal.returns-then-is_some
returns-then-is_some c =
    let types = c.args.types.now in
    let place = c.loop-place.place - 1 in
    let at : (c.loop-place.place - 1) + 1 ≡ c.loop-place.place = let some = c.loop-place-test.true in omega arith in
    let inside : c.loop-place.place - 1 < length c.args.types.now = omega arith in
    sym (strong-some c.of-direction.result (last_strong c.args.before (take place types)) (sym c.is_some.ensures ∙ c.if-is_some.true))
    ∙ ap (λ d. option_or d (last_strong c.args.before (take place types))) c.of-direction.ensures
    ∙ sym (last-more c.args.before types place L inside)
    ∙ ap (λ k. last_strong c.args.before (take k types)) at ∙ c.loop-place.invariant

pub loop-place-preserved : goal.loop-place-preserved
loop-place-preserved c =
    let types = c.args.types.now in
    let place = c.loop-place.place - 1 in
    let at : (c.loop-place.place - 1) + 1 ≡ c.loop-place.place = let some = c.loop-place-test.true in omega arith in
    let inside : c.loop-place.place - 1 < length c.args.types.now = omega arith in
    sym (strong-none c.of-direction.result (last_strong c.args.before (take place types)) (sym c.is_some.ensures ∙ c.if-is_some.false))
    ∙ ap (λ d. option_or d (last_strong c.args.before (take place types))) c.of-direction.ensures
    ∙ sym (last-more c.args.before types place L inside)
    ∙ ap (λ k. last_strong c.args.before (take k types)) at ∙ c.loop-place.invariant

pub returns : goal.returns
returns c =
    let none : c.loop-place.place ≡ 0 = omega arith in
    sym (ap (λ k. last_strong c.args.before (take k c.args.types.now)) none) ∙ c.loop-place.invariant
