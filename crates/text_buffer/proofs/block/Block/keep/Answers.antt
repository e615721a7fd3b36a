-- The paragraph is the same but for what is kept of it.
use Rattle.std.proofs.Common.{length, refl, sym, ap, ◌∙◌, arith}
use Rattle.std.proofs.lemmas.List.{map-set}
use Rattle.std.proofs.Math.Seq.{map-set_same}
use Rattle.std.specs.List.{concat}
use Rattle.text_buffer.specs.declared.piece.Piece.{Piece}
use Rattle.text_buffer.specs.Buffers.{bytes_in}
use Rattle.text_buffer.specs.Pieces.{points_of}
use Rattle.text_buffer.proofs.Sums.{kept-write, kept-least}
use Rattle.text_buffer.proofs.block.Block.keep.Goals as goal

pub overflow_sub-self : goal.overflow_sub-self
overflow_sub-self g c =
    let b = c.args.self.now in
    omega (arith, kept-least b.pieces.items c.args.number c.index.result.now c.requires c.index.ensures, c.kept_count-was.ensures, b.kept_is)

pub invariant_of-self : goal.invariant_of-self
invariant_of-self g c =
    let b = c.args.self.now in
    record {
      some = b.some;
      bytes_is = b.bytes_is ∙ sym (ap (λ t. bytes_in (concat t)) (map-set_same points_of b.pieces.items c.args.number _ c.index_mut-piece.result.now (ap points_of c.index_mut-piece.ensures.value)));
      places_is = b.places_is ∙ sym (ap (λ t. length (concat t)) (map-set_same points_of b.pieces.items c.args.number _ c.index_mut-piece.result.now (ap points_of c.index_mut-piece.ensures.value)));
      kept_is = kept-write b.pieces.items c.args.number _ c.index.result.now _ 1 _ c.requires c.index.ensures c.kept_count-was.ensures refl b.kept_is;
    }

pub returns-clause-points : goal.returns-clause-points
returns-clause-points g c = map-set_same points_of c.args.self.now.pieces.items c.args.number _ c.index_mut-piece.result.now (ap points_of c.index_mut-piece.ensures.value)

pub returns-clause-kept : goal.returns-clause-kept
returns-clause-kept g c = map-set (λ (p : Piece _). p.kept) c.args.self.now.pieces.items c.args.number _
