-- The goals of `put_char` that are answered by hand.
use Rattle.std.proofs.Common.{◌+◌, ◌/◌, ◌%◌, ◌∷◌, ◌++◌, [], ap, ◌∙◌, take}
use Rattle.std.proofs.lemmas.Str.{IsUtf8-encode}
use Rattle.std.specs.Prelude.{encode_utf8}
use Rattle.rga_tree.proofs.Encoding.{two-behind, three-behind, four-behind}
use Rattle.rga_tree.proofs.shown.put_char.Goals as goal

pub returns-then-code-lt128-clause-utf8 : goal.returns-then-code-lt128-clause-utf8
returns-then-code-lt128-clause-utf8 c = IsUtf8-encode c.args.ch c.ranges.ch.0

pub returns-then-code-lt2048-clause-utf8 : goal.returns-then-code-lt2048-clause-utf8
returns-then-code-lt2048-clause-utf8 c = IsUtf8-encode c.args.ch c.ranges.ch.0

pub returns-then-code-lt65536-clause-utf8 : goal.returns-then-code-lt65536-clause-utf8
returns-then-code-lt65536-clause-utf8 c = IsUtf8-encode c.args.ch c.ranges.ch.0

pub returns-clause-utf8 : goal.returns-clause-utf8
returns-clause-utf8 c = IsUtf8-encode c.args.ch c.ranges.ch.0

pub returns-then-code-lt2048-clause-bytes : goal.returns-then-code-lt2048-clause-bytes
returns-then-code-lt2048-clause-bytes c =
    let code = c.from-code.result in
    let before = take c.args.at c.args.bytes.now in
    c.put_byte-then-code-lt2048.ensures.bytes ∙ ap (λ t. t ++ (128 + code % 64) ∷ []) c.put_byte-second.ensures.bytes
    ∙ two-behind before code c.if-code-lt128.false c.if-code-lt2048.true ∙ ap (λ n. before ++ encode_utf8 n) c.from-code.ensures

pub returns-then-code-lt65536-clause-bytes : goal.returns-then-code-lt65536-clause-bytes
returns-then-code-lt65536-clause-bytes c =
    let code = c.from-code.result in
    let before = take c.args.at c.args.bytes.now in
    c.put_byte-then-code-lt65536.ensures.bytes
    ∙ ap (λ t. t ++ (128 + code % 64) ∷ [])
    (c.put_byte-third.ensures.bytes ∙ ap (λ t. t ++ (128 + code / 64 % 64) ∷ []) c.put_byte-second-then-code-lt65536.ensures.bytes)
    ∙ three-behind before code c.if-code-lt2048.false c.if-code-lt65536.true ∙ ap (λ n. before ++ encode_utf8 n) c.from-code.ensures

pub returns-clause-bytes : goal.returns-clause-bytes
returns-clause-bytes c =
    let code = c.from-code.result in
    let before = take c.args.at c.args.bytes.now in
    c.put_byte-2.ensures.bytes
    ∙ ap (λ t. t ++ (128 + code % 64) ∷ [])
    (c.put_byte-fourth.ensures.bytes ∙ ap (λ t. t ++ (128 + code / 64 % 64) ∷ [])
    (c.put_byte-third-2.ensures.bytes ∙ ap (λ t. t ++ (128 + code / 4096 % 64) ∷ []) c.put_byte-second-2.ensures.bytes))
    ∙ four-behind before code c.if-code-lt65536.false ∙ ap (λ n. before ++ encode_utf8 n) c.from-code.ensures
