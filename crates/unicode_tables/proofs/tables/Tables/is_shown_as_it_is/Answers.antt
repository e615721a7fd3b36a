-- All of the text is stepped over, and nothing that is replaced is.
use Rattle.std.proofs.Common.{◌≤◌, ◌||◌, length, eqb-true, None, ap, sym, ◌∙◌, arith, take_all}
use Rattle.std.specs.List.{list_any}
use Rattle.std.specs.Prelude.{is_some, slice_index_or}
use Rattle.std.specs.Str.{chars}
use Rattle.bg_types.specs.declared.class.Bidi.TheVariants.{L}
use Rattle.unicode_tables.specs.Classes.{is_segment_separator}
use Rattle.unicode_tables.specs.Tables.{bidi_of, mirror_of}
use Rattle.unicode_tables.specs.Words.{word_in}
use Rattle.unicode_tables.proofs.CodePoints.{each_below-at}
use Rattle.unicode_tables.proofs.FirstBytes.{replaced-stop}
use Rattle.unicode_tables.proofs.tables.Tables.is_shown_as_it_is.Goals as goal

pub returns : goal.returns
returns c = λ h.
    let text = c.args.text.now in
    let bytes = c.passed-bytes.result.0 in
    let tables = c.self.inside in
    let words = tables.words in
    let bidi = bidi_of c.args.self.now in
    let mirror = mirror_of c.args.self.now in
    let end = eqb-true bytes (length text) h in
    let all : length text ≤ bytes = omega arith in
    ap (λ t. list_any (λ k. is_segment_separator (bidi k) || is_some (mirror k)) (chars t)) (sym (take_all bytes text all))
    ∙ c.passed-bytes.ensures.none (λ k. is_segment_separator (bidi k) || is_some (mirror k))
    (replaced-stop words bidi c.self.invariant.2
    (λ k h. sym (each_below-at 0x110000 (λ n. (word_in words n).bidi) k L h) ∙ ap (λ t. bidi_of t k) c.self.view_is)
    mirror
    (λ k h. c.self.invariant.1.mirrors k h ∙ ap is_some (sym (each_below-at 0x110000 (λ n. slice_index_or tables.mirror n None) k None h) ∙ ap (λ t. mirror_of t k) c.self.view_is)))
