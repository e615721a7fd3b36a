-- One class more.
use Rattle.std.proofs.Common.{◌∙◌, ap, ap₂, sym, arith}
use Rattle.std.specs.Prelude.{◌&&◌}
use Rattle.std.specs.List.{list_all}
use Rattle.std.proofs.lemmas.List.{take_all}
use Rattle.std.proofs.lemmas.List.Folds.{list_all_more}
use Rattle.bg_types.specs.declared.class.Bidi.TheVariants.{L}
use Rattle.bidi_weak_neutral.specs.Classes.{is_plain}
use Rattle.bidi_weak_neutral.proofs.paragraph.are_plain.Goals as goal

pub loop-class-preserved : goal.loop-class-preserved
loop-class-preserved c =
    ap₂ (λ x y. x && y) c.loop-class.invariant c.is_plain-plain.ensures
    ∙ sym (list_all_more is_plain c.args.classes.now c.loop-class.class-index L c.loop-class-test.true)

pub returns : goal.returns
returns c = c.loop-class.invariant ∙ ap (list_all is_plain) (take_all c.loop-class.class-index c.args.classes.now (omega arith))
