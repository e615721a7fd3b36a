-- What is left, and the paragraphs behind it, from the last block to the first.
use Rattle.std.proofs.Common.{◌≡◌, ◌<◌, ◌++◌, reverse}
use Rattle.std.specs.Prelude.{vec_len}
use Rattle.text_buffer.specs.Blocks.{pieces_in}
use Rattle.text_buffer.proofs.replace.blocks_of.Given as goal

abbrev pub invariant-loop-left : goal.invariant-loop-left
invariant-loop-left g l = record {
  some : 0 < vec_len l.left;
  kept : l.left.items ++ pieces_in (reverse l.blocks.items) ≡ l.fn.pieces.items;
}

abbrev pub decreases-loop-left : goal.decreases-loop-left
decreases-loop-left g l = vec_len l.left
