-- One place more.
use Rattle.std.proofs.Common.{◌∙◌, sym, arith}
use Rattle.bidi_explicit.specs.Uniform.{is_control}
use Rattle.bidi_explicit.proofs.Passed.{passed-before}
use Rattle.bidi_explicit.proofs.controls.control_end.Goals as goal

pub loop-place-preserved : goal.loop-place-preserved
loop-place-preserved c =
    let h = c.loop-place.invariant in
    record {
      within = omega arith;
      passed = passed-before is_control c.args.classes.now c.loop-place.place c.args.end (omega arith) (sym c.is_control.ensures ∙ c.if-not-is_control.true) h.passed;
    }
