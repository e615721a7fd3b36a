-- One character is one code point.
use Rattle.std.proofs.Common.{◌≡◌, ◌++◌, [], ◌∷◌, take, drop, sym, ap, ◌∙◌, arith}
use Rattle.std.proofs.lemmas.List.{append-nil}
use Rattle.std.proofs.lemmas.Result.{on_ok_weaker}
use Rattle.std.proofs.lemmas.Str.{chars_past_char}
use Rattle.std.specs.Prelude.{encode_utf8}
use Rattle.paragraphs.specs.Text.{code_points}
use Rattle.text_buffer.specs.Buffers.{bytes_in, text_in}
use Rattle.text_buffer.proofs.Chars.{points-none}
use Rattle.text_buffer.proofs.buffer.Buffer.put.Goals as goal

pub returns-clause-text : goal.returns-clause-text
returns-clause-text g c =
    let old = text_in c.args.self.now in
    let s = c.encode_utf8.result.now in
    let one : code_points s ≡ c.args.ch ∷ [] = chars_past_char s [] c.args.ch c.encode_utf8.utf8 (c.encode_utf8.ensures.value ∙ sym (append-nil (encode_utf8 c.args.ch))) ∙ ap (λ t. c.args.ch ∷ t) points-none in
    on_ok_weaker c.edit.result (λ is. is ∙ ap (λ x. take c.args.place old ++ (x ++ drop c.args.place old)) one) c.edit.ensures.text

pub returns-clause-too_long : goal.returns-clause-too_long
returns-clause-too_long g c =
    let old = text_in c.args.self.now in
    let s = c.encode_utf8.result.now in
    let one : code_points s ≡ c.args.ch ∷ [] = chars_past_char s [] c.args.ch c.encode_utf8.utf8 (c.encode_utf8.ensures.value ∙ sym (append-nil (encode_utf8 c.args.ch))) ∙ ap (λ t. c.args.ch ∷ t) points-none in
    let bytes = ap (λ x. bytes_in (take c.args.place old ++ (x ++ drop c.args.place old))) one in
    (λ e. omega (arith, bytes, c.edit.ensures.too_long.0 e), λ m. c.edit.ensures.too_long.1 (omega (arith, bytes, m)))
