-- One paragraph more is done.
use Rattle.std.proofs.Common.{◌≤◌, length, refl, sym, ap, ◌∙◌, arith}
use Rattle.std.proofs.lemmas.List.{take_all}
use Rattle.text_buffer.specs.Pieces.{points_in, kept_of}
use Rattle.text_buffer.specs.Forgetting.{left_of}
use Rattle.text_buffer.proofs.Forgets.{swept-more}
use Rattle.text_buffer.proofs.block.forget_outside.Goals as goal

pub loop-number-init : goal.loop-number-init
loop-number-init g c = record { size = refl; points = refl; kept = refl; back = refl }

pub loop-number-preserved : goal.loop-number-preserved
loop-number-preserved g c =
    let old = c.args.pieces.now in
    let now = c.loop-number.pieces in
    let i = c.loop-number.number in
    let d = c.index-pieces-number.result in
    swept-more c.args.spared c.args.first old now i c.loop-number.invariant d c.forget_unless.new.self (omega (arith, c.loop-number-test.true, c.loop-number.auto.pieces)) c.forget_unless.ensures.text
    c.forget_unless.ensures.kept

pub returns-clause-points : goal.returns-clause-points
returns-clause-points g c =
    let old = c.args.pieces.now in
    let now = c.loop-number.pieces in
    let i = c.loop-number.number in
    let s = c.loop-number.invariant in
    let few : length now ≤ i = omega (arith, c.loop-number.auto.pieces, c.loop-number-test.false) in
    sym (ap points_in (take_all i now few)) ∙ s.points ∙ ap points_in (take_all i old (omega (arith, few, s.size)))

pub returns-clause-kept : goal.returns-clause-kept
returns-clause-kept g c =
    let old = c.args.pieces.now in
    let now = c.loop-number.pieces in
    let i = c.loop-number.number in
    let s = c.loop-number.invariant in
    let few : length now ≤ i = omega (arith, c.loop-number.auto.pieces, c.loop-number-test.false) in
    sym (ap kept_of (take_all i now few)) ∙ s.kept ∙ ap (λ ps. left_of c.args.spared c.args.first (kept_of ps)) (take_all i old (omega (arith, few, s.size)))
