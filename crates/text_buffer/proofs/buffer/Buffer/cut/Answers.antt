-- Without a character the text is no longer.
use Rattle.std.proofs.Common.{◌+◌, ◌++◌, [], take, drop, add-one, sym, ap, ◌∙◌, arith}
use Rattle.std.proofs.lemmas.Result.{on_ok_weaker}
use Rattle.std.specs.List.{concat}
use Rattle.text_buffer.specs.Buffers.{bytes_in, paragraphs_in, text_in}
use Rattle.text_buffer.specs.Edits.{replaced}
use Rattle.text_buffer.specs.Blocks.{pieces_in}
use Rattle.text_buffer.proofs.Places.{seen-points}
use Rattle.text_buffer.proofs.Edits.{bytes-replaced}
use Rattle.text_buffer.proofs.Sums.{places-few}
use Rattle.text_buffer.proofs.Chars.{points-none}
use Rattle.text_buffer.proofs.buffer.Buffer.cut.Goals as goal

pub overflow_add-place : goal.overflow_add-place
overflow_add-place g c =
    let view = ap (λ k. bytes_in (concat k)) (sym (seen-points (pieces_in c.self.inside.blocks.items)) ∙ ap paragraphs_in c.self.view_is) in
    omega (arith, view, c.self.invariant.bytes_is, c.self.invariant.few, places-few (text_in c.args.self.now), c.requires.place)

pub returns-clause-text : goal.returns-clause-text
returns-clause-text g c =
    let old = text_in c.args.self.now in
    on_ok_weaker c.edit.result (λ is. is ∙ ap (λ x. take c.args.place old ++ (x ++ drop (c.args.place + 1) old)) points-none ∙ ap (λ n. take c.args.place old ++ drop n old) (add-one c.args.place)) c.edit.ensures.text

pub returns-clause-fits : goal.returns-clause-fits
returns-clause-fits g c = λ long.
    let view = ap (λ k. bytes_in (concat k)) (sym (seen-points (pieces_in c.self.inside.blocks.items)) ∙ ap paragraphs_in c.self.view_is) in
    let fewer = bytes-replaced (text_in c.args.self.now) [] c.args.place (c.args.place + 1) (omega arith) in
    let none = ap (λ x. bytes_in (replaced (text_in c.args.self.now) c.args.place (c.args.place + 1) x)) points-none in
    omega (arith, view, c.self.invariant.bytes_is, c.self.invariant.few, fewer, none, c.edit.ensures.too_long.0 long)
