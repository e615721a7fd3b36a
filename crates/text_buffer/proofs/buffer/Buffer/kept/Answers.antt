-- What is kept in the paragraph's block.
use Rattle.std.proofs.Common.{◌≡◌, ◌+◌, ◌-◌, ◌<◌, [], None, Some, length, take, get_or, sym, ap, subst, ◌∙◌, arith}
use Rattle.std.proofs.lemmas.List.{length-map}
use Rattle.std.proofs.lemmas.Option.{slice_get-get_or}
use Rattle.std.specs.Prelude.{slice_get}
use Rattle.text_buffer.specs.declared.piece.Piece.{Piece}
use Rattle.text_buffer.specs.declared.block.Block.{Block}
use Rattle.text_buffer.specs.Buffers.{kept_in}
use Rattle.text_buffer.specs.Pieces.{kept_of}
use Rattle.text_buffer.specs.Blocks.{rows_of, joined, pieces_in}
use Rattle.text_buffer.specs.Places.{IsBlockOf}
use Rattle.text_buffer.proofs.Places.{length-points, seen-kept, row-at}
use Rattle.text_buffer.proofs.Founds.{found-there, found-kept}
use Rattle.text_buffer.proofs.buffer.Buffer.kept.Goals as goal

pub index-requires : goal.index-requires
index-requires g c =
    let b = subst (λ all. IsBlockOf all c.block_near-before.result c.args.number) c.deref.ensures.value c.block_near-before.ensures in
    omega (arith, b.stands.within, c.self.inside.blocks.ok)

pub index-requires-2 : goal.index-requires-2
index-requires-2 g c =
    let bs = c.self.inside.blocks.items in
    let b = subst (λ all. IsBlockOf all c.block_near-before.result c.args.number) c.deref.ensures.value c.block_near-before.ensures in
    let own = row-at bs c.block_near-before.result.block c.index.result.now b.stands.within c.index.ensures in
    omega (arith, b.here, b.reached, ap length own, c.index.result.now.pieces.ok)

pub returns : goal.returns
returns g c =
    let bs = c.self.inside.blocks.items in
    let q = c.block_near-before.result.block in
    let i = c.args.number - c.block_near-before.result.paragraphs in
    let p = c.index-2.result.now in
    let b = subst (λ all. IsBlockOf all c.block_near-before.result c.args.number) c.deref.ensures.value c.block_near-before.ensures in
    let front = joined (take q (rows_of bs)) in
    let number : c.args.number ≡ length front + i = omega (arith, b.stands.paragraphs, length-points front, b.reached) in
    let inside : i < length (get_or (rows_of bs) q []) = omega (arith, b.here, b.reached) in
    let there = found-there bs q i c.args.number b.stands.within inside number in
    let own = found-kept bs q i c.args.number b.stands.within inside number c.index.result.now p (c.index-2.ensures ∙ ap (λ (x : Block _). get_or x.pieces.items i p) c.index.ensures) in
    ap (λ k. slice_get k c.args.number) (sym (sym (seen-kept (pieces_in bs)) ∙ ap kept_in c.self.view_is))
    ∙ slice_get-get_or (kept_of (pieces_in bs)) c.args.number None (omega (arith, there, length-points (pieces_in bs), length-map (pieces_in bs) (λ (x : Piece _). x.kept)))
    ∙ ap Some (sym own ∙ sym c.as_ref.ensures.value)
