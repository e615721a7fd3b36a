-- What is seen of the blocks are the paragraphs.
use Rattle.std.proofs.Common.{length, sym, ap, subst, ◌∙◌, arith}
use Rattle.std.specs.List.{concat}
use Rattle.text_buffer.specs.Buffers.{paragraphs_in}
use Rattle.text_buffer.specs.Edits.{IsParagraphOf}
use Rattle.text_buffer.specs.Blocks.{pieces_in, texts_in}
use Rattle.text_buffer.proofs.Places.{seen-points}
use Rattle.text_buffer.proofs.buffer.Buffer.paragraph_of.Goals as goal

pub find_at-requires-clause-within : goal.find_at-requires-clause-within
find_at-requires-clause-within g c =
    let is = ap texts_in c.deref.ensures.value ∙ sym (seen-points (pieces_in c.self.inside.blocks.items)) ∙ ap paragraphs_in c.self.view_is in
    omega (arith, ap (λ t. length (concat t)) is, c.requires)

pub returns : goal.returns
returns g c =
    let is = ap texts_in c.deref.ensures.value ∙ sym (seen-points (pieces_in c.self.inside.blocks.items)) ∙ ap paragraphs_in c.self.view_is in
    subst (λ t. IsParagraphOf t c.args.place c.find_at.result.number) is c.find_at.ensures.number
