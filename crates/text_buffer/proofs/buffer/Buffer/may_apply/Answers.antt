-- The count is that of the text.
use Rattle.std.proofs.Common.{◌≡◌, true, false, length, sym, ap, refl, ◌∙◌, arith}
use Rattle.std.specs.Prelude.{IsTrue}
use Rattle.std.specs.List.{concat}
use Rattle.text_buffer.specs.Buffers.{paragraphs_in, text_in}
use Rattle.text_buffer.specs.Blocks.{pieces_in, texts_in}
use Rattle.text_buffer.proofs.Places.{seen-points}
use Rattle.text_buffer.proofs.Sums.{places-few}
use Rattle.text_buffer.proofs.buffer.Buffer.may_apply.Goals as goal

pub are_in_range-requires : goal.are_in_range-requires
are_in_range-requires g c = let i = c.self.invariant in omega (arith, i.places_is, i.bytes_is, i.few, places-few (concat (texts_in c.self.inside.blocks.items)))

pub returns : goal.returns
returns g c =
    let size = sym (c.self.invariant.places_is ∙ ap (λ t. length (concat t)) (sym (seen-points (pieces_in c.self.inside.blocks.items)) ∙ ap paragraphs_in c.self.view_is)) in
    let answer = c.are_in_range.result in (
      λ yes. c.are_in_range.ensures.yes yes (text_in c.args.self.now) size,
      λ range. elim answer as (λ b. answer ≡ b → IsTrue answer) [ true ↦ λ yes. yes | false ↦ λ no. absurd (c.are_in_range.ensures.no no (text_in c.args.self.now) size range) ] refl,
    )
