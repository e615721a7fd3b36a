-- The text is that of the paragraphs.
use Rattle.std.proofs.Common.{length, sym, ap, ◌∙◌}
use Rattle.std.specs.List.{concat}
use Rattle.text_buffer.specs.Buffers.{paragraphs_in}
use Rattle.text_buffer.specs.Blocks.{pieces_in}
use Rattle.text_buffer.proofs.Places.{seen-points}
use Rattle.text_buffer.proofs.buffer.Buffer.len.Goals as goal

pub returns : goal.returns
returns g c = c.self.invariant.places_is ∙ ap (λ t. length (concat t)) (sym (seen-points (pieces_in c.self.inside.blocks.items)) ∙ ap paragraphs_in c.self.view_is)
