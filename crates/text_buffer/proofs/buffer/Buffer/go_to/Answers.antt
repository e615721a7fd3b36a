-- The place is one of the text.
use Rattle.std.proofs.Common.{length, sym, ap, ◌∙◌, arith}
use Rattle.std.specs.List.{concat}
use Rattle.text_buffer.specs.Buffers.{paragraphs_in}
use Rattle.text_buffer.specs.Blocks.{pieces_in, texts_in}
use Rattle.text_buffer.proofs.Places.{seen-points}
use Rattle.text_buffer.proofs.buffer.Buffer.go_to.Goals as goal

pub block_at-self-inside-requires-clause-within : goal.block_at-self-inside-requires-clause-within
block_at-self-inside-requires-clause-within g c =
    let is = ap texts_in c.deref-2.ensures.value ∙ sym (seen-points (pieces_in c.self.inside.blocks.items)) ∙ ap paragraphs_in c.self.view_is in
    omega (arith, ap (λ t. length (concat t)) is, c.requires)
