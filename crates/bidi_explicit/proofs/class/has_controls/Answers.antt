-- One class more.
use Rattle.std.proofs.Common.{◌∙◌, ◌||◌, ap, ap₂, sym, arith}
use Rattle.std.specs.List.{list_any}
use Rattle.std.proofs.lemmas.List.{take_all}
use Rattle.std.proofs.lemmas.List.Folds.{list_any_more}
use Rattle.bg_types.specs.declared.class.Bidi.TheVariants.{L}
use Rattle.bidi_explicit.specs.Uniform.{is_control}
use Rattle.bidi_explicit.proofs.class.has_controls.Goals as goal

pub loop-class-preserved : goal.loop-class-preserved
loop-class-preserved c =
    ap₂ (λ x y. x || y) c.loop-class.invariant c.is_control-found.ensures
    ∙ sym (list_any_more is_control c.args.classes.now c.loop-class.class-index L c.loop-class-test.true)

pub returns : goal.returns
returns c = c.loop-class.invariant ∙ ap (list_any is_control) (take_all c.loop-class.class-index c.args.classes.now (omega arith))
