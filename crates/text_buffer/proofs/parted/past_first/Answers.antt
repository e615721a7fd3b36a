-- The first character is one code point.
use Rattle.std.proofs.Common.{◌++◌, drop, sym, ap, ◌∙◌}
use Rattle.std.proofs.lemmas.Str.{chars_past_char}
use Rattle.std.specs.Prelude.{encode_utf8}
use Rattle.paragraphs.proofs.Interface.{past_char-shorter}
use Rattle.text_buffer.proofs.Chars.{end-of}
use Rattle.text_buffer.proofs.parted.past_first.Goals as goal

pub returns-in-Some-clause-points : goal.returns-in-Some-clause-points
returns-in-Some-clause-points c =
    let ch = c.in-Some.field-0 in
    let is = sym c.chars-chars.ensures.rest ∙ c.in-Some.ensures.steps.0 ∙ ap (λ t. encode_utf8 ch ++ t) (sym c.as_str.ensures) in
    sym (ap (drop 1) (chars_past_char c.args.text.now c.as_str.result.now ch c.utf8.text is))

pub returns-in-Some-clause-len : goal.returns-in-Some-clause-len
returns-in-Some-clause-len c =
    let ch = c.in-Some.field-0 in
    let is = sym c.chars-chars.ensures.rest ∙ c.in-Some.ensures.steps.0 ∙ ap (λ t. encode_utf8 ch ++ t) (sym c.as_str.ensures) in
    past_char-shorter c.args.text.now c.as_str.result.now ch is

pub returns-in-Some-clause-end : goal.returns-in-Some-clause-end
returns-in-Some-clause-end c =
    let ch = c.in-Some.field-0 in
    let is = sym c.chars-chars.ensures.rest ∙ c.in-Some.ensures.steps.0 ∙ ap (λ t. encode_utf8 ch ++ t) (sym c.as_str.ensures) in
    end-of c.args.text.now (encode_utf8 ch) c.as_str.result.now is
