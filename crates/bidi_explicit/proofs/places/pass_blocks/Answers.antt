-- One block more.
use Rattle.std.proofs.Common.{◌+◌, ◌∙◌, sym, arith}
use Rattle.bidi_explicit.specs.Uniform.{is_apart}
use Rattle.bidi_explicit.proofs.Passed.{passed-on, passed-between}
use Rattle.bidi_explicit.proofs.places.pass_blocks.Goals as goal

pub loop-end-preserved : goal.loop-end-preserved
loop-end-preserved c =
    let cs = c.args.classes.now in
    let end = c.loop-end.end in
    let h = c.loop-end.invariant in
    record {
      from = omega (arith, h.from);
      within = omega arith;
      simple = passed-on is_apart cs c.args.start end (end + 16) h.simple
          (passed-between is_apart cs end (end + 16) (omega arith) (sym c.has_apart.ensures ∙ c.if-not-has_apart.true));
    }
