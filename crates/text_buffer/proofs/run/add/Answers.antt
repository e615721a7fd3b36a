-- One character is one code point.
use Rattle.std.proofs.Common.{◌≡◌, ◌++◌, [], ◌∷◌, sym, ap, ◌∙◌}
use Rattle.std.proofs.lemmas.List.{append-nil}
use Rattle.std.proofs.lemmas.Str.{chars-append, chars_past_char, IsUtf8-encode, IsUtf8-string_bytes}
use Rattle.std.specs.Prelude.{encode_utf8, string_bytes}
use Rattle.paragraphs.specs.Text.{code_points}
use Rattle.text_buffer.proofs.Chars.{points-none}
use Rattle.text_buffer.proofs.run.add.Goals as goal

pub returns : goal.returns
returns c =
    let ch = c.args.ch in
    let old = string_bytes c.args.text.now in
    let one : code_points (encode_utf8 ch) ≡ ch ∷ [] =
    chars_past_char (encode_utf8 ch) [] ch (IsUtf8-encode ch c.ranges.ch.0) (sym (append-nil (encode_utf8 ch))) ∙ ap (λ t. ch ∷ t) points-none in
    ap code_points c.in_ok-push.ensures.bytes ∙ chars-append old (encode_utf8 ch) (IsUtf8-string_bytes c.args.text.now) ∙ ap (λ t. code_points old ++ t) one
