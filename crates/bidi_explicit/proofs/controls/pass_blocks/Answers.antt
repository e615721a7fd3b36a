-- One block more.
use Rattle.std.proofs.Common.{◌-◌, ◌∙◌, sym, arith}
use Rattle.bidi_explicit.specs.Uniform.{is_control}
use Rattle.bidi_explicit.proofs.Passed.{passed-on, passed-between}
use Rattle.bidi_explicit.proofs.controls.pass_blocks.Goals as goal

pub loop-start-preserved : goal.loop-start-preserved
loop-start-preserved c =
    let cs = c.args.classes.now in
    let start = c.loop-start.start in
    let h = c.loop-start.invariant in
    record {
      within = omega arith;
      passed = passed-on is_control cs (start - 16) start c.args.end
          (passed-between is_control cs (start - 16) start (omega arith) (sym c.has_controls.ensures ∙ c.if-not-has_controls.true)) h.passed;
    }
