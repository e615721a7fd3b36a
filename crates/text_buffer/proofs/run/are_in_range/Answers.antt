-- A change more is in range, or is not.
use Rattle.std.proofs.Common.{take, refl, arith}
use Rattle.text_buffer.specs.Edits.{all_changed}
use Rattle.text_buffer.proofs.Runs.{counted-more, out-of-range}
use Rattle.text_buffer.proofs.run.are_in_range.Goals as goal

pub returns-in-None-clause-no : goal.returns-in-None-clause-no
returns-in-None-clause-no c = λ _ text size range.
    let changes = c.args.changes.now in
    let i = c.loop-change.change-index in
    out-of-range text changes i _ (omega (arith, c.loop-change-test.true)) (c.in-None.ensures.none refl (all_changed text (take i changes)) (c.loop-change.invariant.counted text size).size) range

pub loop-change-preserved : goal.loop-change-preserved
loop-change-preserved c =
    let changes = c.args.changes.now in
    let i = c.loop-change.change-index in
    record {
      few = omega (arith, c.loop-change.invariant.few, c.in-Some.ensures.few);
      counted = λ text size.
          let k = c.loop-change.invariant.counted text size in
          let s = c.in-Some.ensures.some (all_changed text (take i changes)) k.size in
          counted-more text changes i c.loop-change.now c.in-Some.next _ (omega (arith, c.loop-change-test.true)) k s.0 s.1;
    }
