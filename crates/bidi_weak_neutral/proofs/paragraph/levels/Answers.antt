-- The classes are those of the code points.
use Rattle.std.proofs.Common.{◌∙◌, ap, sym, map}
use Rattle.unicode_tables.specs.Tables.{bidi_of}
use Rattle.bidi_explicit.specs.Embedding.{classes_of}
use Rattle.bidi_weak_neutral.proofs.paragraph.levels.Goals as goal

pub levels_into-requires-clause-classes : goal.levels_into-requires-clause-classes
levels_into-requires-clause-classes c =
    let points = c.deref.ensures.value ∙ c.in_ok-code_points_into.ensures in
    c.deref-2.ensures.value ∙ c.in_ok-classes.ensures
    ∙ ap (classes_of c.args.tables.now) (c.text-2.ensures ∙ sym c.text.ensures) ∙ ap (map (bidi_of c.args.tables.now)) (sym points)
