-- One place more.
use Rattle.std.proofs.Common.{◌≡◌, ◌-◌, ◌∙◌, ◌++◌, ap, sym, get_or, take, drop, replicate, take-append-drop, append-nil, true, arith}
use Rattle.std.proofs.lemmas.List.{length-set}
use Rattle.bg_types.specs.declared.class.Bidi.TheVariants.{L}
use Rattle.reorder.specs.LineLevels.{may_be_reset}
use Rattle.reorder.proofs.Rows.{row-before, put-before}
use Rattle.reorder.proofs.line.reset_before.Goals as goal

pub loop-start-init : goal.loop-start-init
loop-start-init c =
    let none : c.args.end - c.args.end ≡ 0 = omega arith in
    record {
      long = c.requires.levels;
      within = omega arith;
      reset = λ k from to. absurd (omega arith);
      put = sym (take-append-drop c.args.end c.args.after.now)
          ∙ ap (λ l. l ++ drop c.args.end c.args.after.now) (sym (append-nil (take c.args.end c.args.after.now)))
          ∙ ap (λ n. take c.args.end c.args.after.now ++ replicate n c.args.para_level ++ drop c.args.end c.args.after.now) (sym none);
    }

pub loop-start-preserved : goal.loop-start-preserved
loop-start-preserved c =
    let h = c.loop-start.invariant in
    record {
      long = length-set _ _ _ ∙ h.long;
      within = omega arith;
      reset = row-before (λ k. may_be_reset (get_or c.args.classes.now k L) ≡ true) c.loop-start.start c.args.end (omega arith)
          (sym c.may_be_reset.ensures ∙ c.if-may_be_reset.true) h.reset;
      put = put-before c.args.after.now c.loop-start.after c.loop-start.start c.args.end c.args.para_level (omega arith) (omega arith) (omega arith) h.put;
    }
