-- Without a character the text is no longer.
use Rattle.std.proofs.Common.{◌+◌, ◌++◌, [], take, drop, add-one, sym, ap, ◌∙◌, arith}
use Rattle.std.specs.List.{concat}
use Rattle.bg_types.specs.Edit.{changed}
use Rattle.text_buffer.specs.Buffers.{bytes_in, paragraphs_in, text_in}
use Rattle.text_buffer.specs.Blocks.{pieces_in}
use Rattle.text_buffer.proofs.Places.{seen-points}
use Rattle.text_buffer.proofs.Edits.{bytes-replaced}
use Rattle.text_buffer.proofs.buffer.Buffer.apply.Goals as goal

pub returns-in-Cut-clause-too_long : goal.returns-in-Cut-clause-too_long
returns-in-Cut-clause-too_long g c =
    let old = text_in c.args.self.now in
    let p = c.in-Cut.place in
    let view = ap (λ k. bytes_in (concat k)) (sym (seen-points (pieces_in c.self.inside.blocks.items)) ∙ ap paragraphs_in c.self.view_is) in
    let fewer = bytes-replaced old [] p (p + 1) (omega arith) in
    let all = ap (λ x. bytes_in (changed old x)) c.in-Cut.is in
    let same = ap (λ n. bytes_in (take p old ++ drop n old)) (add-one p) in
    (λ long. absurd (c.cut.ensures.fits long), λ m. absurd (omega (arith, view, c.self.invariant.bytes_is, c.self.invariant.few, fewer, all, same, m)))
