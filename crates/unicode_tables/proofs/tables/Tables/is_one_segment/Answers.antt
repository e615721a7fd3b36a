-- All of the text is stepped over, and no separator is.
use Rattle.std.proofs.Common.{◌≤◌, length, eqb-true, ap, sym, ◌∙◌, arith, take_all}
use Rattle.std.specs.List.{list_any}
use Rattle.std.specs.Str.{chars}
use Rattle.bg_types.specs.declared.class.Bidi.TheVariants.{L}
use Rattle.unicode_tables.specs.Classes.{is_segment_separator}
use Rattle.unicode_tables.specs.Tables.{bidi_of}
use Rattle.unicode_tables.specs.Words.{word_in}
use Rattle.unicode_tables.proofs.CodePoints.{each_below-at}
use Rattle.unicode_tables.proofs.FirstBytes.{segments-stop}
use Rattle.unicode_tables.proofs.tables.Tables.is_one_segment.Goals as goal

pub returns : goal.returns
returns c = λ h.
    let text = c.args.text.now in
    let bytes = c.passed-bytes.result.0 in
    let words = c.self.inside.words in
    let bidi = bidi_of c.args.self.now in
    let end = eqb-true bytes (length text) h in
    let all : length text ≤ bytes = omega arith in
    ap (λ t. list_any (λ k. is_segment_separator (bidi k)) (chars t)) (sym (take_all bytes text all))
    ∙ c.passed-bytes.ensures.none (λ k. is_segment_separator (bidi k))
    (segments-stop words bidi c.self.invariant.2
    (λ k h. sym (each_below-at 0x110000 (λ n. (word_in words n).bidi) k L h) ∙ ap (λ tables. bidi_of tables k) c.self.view_is))
