-- No separator is stepped over.
use Rattle.std.proofs.Common.{ap, sym, ◌∙◌}
use Rattle.bg_types.specs.declared.class.Bidi.TheVariants.{L}
use Rattle.unicode_tables.specs.Classes.{is_separator}
use Rattle.unicode_tables.specs.Tables.{bidi_of}
use Rattle.unicode_tables.specs.Words.{word_in}
use Rattle.unicode_tables.proofs.CodePoints.{each_below-at}
use Rattle.unicode_tables.proofs.FirstBytes.{separators-stop}
use Rattle.unicode_tables.proofs.tables.Tables.before_separator.Goals as goal

pub returns-clause-none : goal.returns-clause-none
returns-clause-none c =
    let words = c.self.inside.words in
    let bidi = bidi_of c.args.self.now in
    c.passed.ensures.none (λ k. is_separator (bidi k))
    (separators-stop words bidi c.self.invariant.2
    (λ k h. sym (each_below-at 0x110000 (λ n. (word_in words n).bidi) k L h) ∙ ap (λ tables. bidi_of tables k) c.self.view_is))
