-- The last character, and what stands in front of it.
use Rattle.std.proofs.Common.{length, ◌++◌, sym, ap, ◌∙◌}
use Rattle.std.proofs.lemmas.List.{nil_from_length}
use Rattle.std.proofs.lemmas.Str.{chars-nil, chars-append}
use Rattle.std.specs.Prelude.{encode_utf8}
use Rattle.unicode_tables.specs.Tables.{bidi_of}
use Rattle.unicode_segmentation.proofs.TextLemmas.{IsUtf8-after, chars-encode_utf8}
use Rattle.paragraphs.specs.Text.{code_points}
use Rattle.paragraphs.specs.Paragraphs.{meets_at_cut}
use Rattle.paragraphs.proofs.Halved.{meets-one}
use Rattle.paragraphs.proofs.cuts.meets_at_cut.Goals as goal

pub returns : goal.returns
returns c =
    let class = bidi_of c.args.tables.now in
    let rest = code_points c.args.rest.now in
    let text = sym c.chars-chars.ensures.rest ∙ c.in-Some.ensures.steps ∙ ap (λ x. x ++ encode_utf8 c.in-Some.c) (sym c.as_str-before.ensures) in
    let one = chars-encode_utf8 c.in-Some.c (IsUtf8-after c.args.text.now c.as_str-before.result.now (encode_utf8 c.in-Some.c) c.utf8.text c.as_str-before.utf8 text) in
    let points = ap code_points text ∙ chars-append c.as_str-before.result.now (encode_utf8 c.in-Some.c) c.as_str-before.utf8 ∙ ap (λ t. code_points c.as_str-before.result.now ++ t) one in
    c.ends_paragraph.ensures ∙ sym (ap (λ t. meets_at_cut class t rest) points ∙ meets-one class (code_points c.as_str-before.result.now) c.in-Some.c rest)

pub returns-in_default : goal.returns-in_default
returns-in_default c =
    let none = ap code_points (nil_from_length c.args.text.now (ap length (sym c.chars-chars.ensures.rest) ∙ c.in_default.ensures.steps.0)) ∙ chars-nil in
    sym (ap (λ t. meets_at_cut (bidi_of c.args.tables.now) t (code_points c.args.rest.now)) none)
