-- What the blocks keep is what the buffer is seen to keep.
use Rattle.std.proofs.Common.{sym, ap, ◌∙◌, arith}
use Rattle.text_buffer.specs.Buffers.{kept_weight}
use Rattle.text_buffer.specs.Pieces.{weight_in}
use Rattle.text_buffer.specs.Blocks.{pieces_in}
use Rattle.text_buffer.proofs.Weights.{weight-seen}
use Rattle.text_buffer.proofs.buffer.Buffer.kept_weight.Goals as goal

pub of_blocks-requires : goal.of_blocks-requires
of_blocks-requires g c =
    let weight = g.K.Weighed.weight in
    let same = ap (kept_weight weight) c.self.view_is in
    let seen = weight-seen weight (pieces_in c.self.inside.blocks.items) in
    let here = ap (λ blocks. weight_in weight (pieces_in blocks)) c.deref.ensures.value in
    record { few = omega (arith, same, seen, here, c.requires) }

pub returns : goal.returns
returns g c =
    let weight = g.K.Weighed.weight in
    c.of_blocks.ensures
    ∙ ap (λ blocks. weight_in weight (pieces_in blocks)) c.deref.ensures.value
    ∙ sym (weight-seen weight (pieces_in c.self.inside.blocks.items))
    ∙ ap (kept_weight weight) c.self.view_is
