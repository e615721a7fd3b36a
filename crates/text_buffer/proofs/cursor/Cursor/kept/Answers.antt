-- The paragraph is found among all.
use Rattle.std.proofs.Common.{None, Some, sym, ap, ap₂, ◌∙◌, arith}
use Rattle.std.proofs.lemmas.List.{length-map}
use Rattle.std.proofs.lemmas.Option.{slice_get-get_or}
use Rattle.std.specs.List.{slice_get}
use Rattle.text_buffer.specs.declared.piece.Piece.{Piece}
use Rattle.text_buffer.specs.Buffers.{kept_in}
use Rattle.text_buffer.specs.Pieces.{kept_of}
use Rattle.text_buffer.specs.Blocks.{pieces_in}
use Rattle.text_buffer.proofs.Places.{seen-kept, length-points}
use Rattle.text_buffer.proofs.Founds.{found-there}
use Rattle.text_buffer.proofs.cursor.Cursor.kept.Goals as goal

pub returns : goal.returns
returns g c =
    let bs = c.self.inside.blocks.now in
    let f = c.self.inside.found in
    let s = c.self.invariant.found in
    let all = pieces_in bs in
    let view = sym (seen-kept all) ∙ ap (λ v. kept_in v.paragraphs) c.self.view_is in
    let number = ap (λ v. v.number) c.self.view_is in
    let there = found-there bs f.block f.index f.number s.block s.inside s.number in
    ap₂ slice_get (sym view) (sym number)
    ∙ slice_get-get_or (kept_of all) f.number None (omega (arith, there, length-points all, length-map all (λ (q : Piece _). q.kept)))
    ∙ ap Some (sym c.piece_at.ensures.kept ∙ sym c.as_ref.ensures.value)
