-- One block more.
use Rattle.std.proofs.Common.{◌≡◌, ◌-◌, ◌∙◌, get_or, false, sym, arith}
use Rattle.bg_types.specs.declared.class.Bidi.TheVariants.{L}
use Rattle.reorder.specs.LineLevels.{is_separator}
use Rattle.reorder.proofs.Rows.{rows-joined, none-between}
use Rattle.reorder.proofs.line.pass_blocks.Goals as goal

pub loop-start-preserved : goal.loop-start-preserved
loop-start-preserved c =
    let cs = c.args.classes.now in
    let start = c.loop-start.start in
    let h = c.loop-start.invariant in
    record {
      within = omega arith;
      passed = rows-joined (λ k. is_separator (get_or cs k L) ≡ false) (start - 16) start c.args.end
          (none-between is_separator cs L (start - 16) start (omega arith) (sym c.has_separator.ensures ∙ c.if-not-has_separator.true)) h.passed;
    }
