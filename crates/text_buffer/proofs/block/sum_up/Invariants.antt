-- The sums of the paragraphs so far.
use Rattle.std.proofs.Common.{◌≡◌, take, length}
use Rattle.std.specs.List.{concat}
use Rattle.text_buffer.specs.Buffers.{bytes_in}
use Rattle.text_buffer.specs.Pieces.{points_in, kept_count}
use Rattle.text_buffer.proofs.block.sum_up.Given as goal

abbrev pub invariant-loop-piece : goal.invariant-loop-piece
invariant-loop-piece g l = record {
  bytes : l.bytes ≡ bytes_in (concat (points_in (take l.piece-index l.pieces)));
  places : l.places ≡ length (concat (points_in (take l.piece-index l.pieces)));
  kept : l.kept ≡ kept_count (take l.piece-index l.pieces);
}
