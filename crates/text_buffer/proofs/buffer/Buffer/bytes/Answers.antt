-- The text is that of the paragraphs.
use Rattle.std.proofs.Common.{sym, ap, subst, ◌∙◌}
use Rattle.std.specs.List.{concat}
use Rattle.std.specs.Prelude.{encode_utf8_all}
use Rattle.std.specs.Str.{IsUtf8}
use Rattle.text_buffer.specs.Buffers.{bytes_in, paragraphs_in}
use Rattle.text_buffer.specs.Blocks.{pieces_in}
use Rattle.text_buffer.proofs.Places.{seen-points}
use Rattle.text_buffer.proofs.Splits.{utf8-kept}
use Rattle.text_buffer.proofs.buffer.Buffer.bytes.Goals as goal

pub returns-clause-bytes : goal.returns-clause-bytes
returns-clause-bytes g c = c.self.invariant.bytes_is ∙ ap (λ t. bytes_in (concat t)) (sym (seen-points (pieces_in c.self.inside.blocks.items)) ∙ ap paragraphs_in c.self.view_is)

pub returns-clause-utf8 : goal.returns-clause-utf8
returns-clause-utf8 g c =
    subst (λ t. IsUtf8 (encode_utf8_all (concat t))) (sym (seen-points (pieces_in c.self.inside.blocks.items)) ∙ ap paragraphs_in c.self.view_is)
    (utf8-kept c.self.inside.blocks.items)
