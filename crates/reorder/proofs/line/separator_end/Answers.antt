-- One place more.
use Rattle.std.proofs.Common.{◌≡◌, ◌∙◌, get_or, false, sym, arith}
use Rattle.bg_types.specs.declared.class.Bidi.TheVariants.{L}
use Rattle.reorder.specs.LineLevels.{is_separator}
use Rattle.reorder.proofs.Rows.{row-before}
use Rattle.reorder.proofs.line.separator_end.Goals as goal

pub loop-place-preserved : goal.loop-place-preserved
loop-place-preserved c =
    let h = c.loop-place.invariant in
    record {
      within = omega arith;
      passed = row-before (λ k. is_separator (get_or c.args.classes.now k L) ≡ false) c.loop-place.place c.args.end (omega arith)
          (sym c.is_separator.ensures ∙ c.if-not-is_separator.true) h.passed;
    }
