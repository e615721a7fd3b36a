-- The paragraphs stay, and the blocks before the first of these.
use Rattle.std.proofs.Common.{◌≡◌, take}
use Rattle.text_buffer.specs.Blocks.{rows_of, pieces_in}
use Rattle.text_buffer.proofs.replace.join_sparse.Given as goal

abbrev pub invariant-loop-q : goal.invariant-loop-q
invariant-loop-q g l = record {
  kept : pieces_in l.blocks.items ≡ pieces_in l.initial.blocks.items;
  front : take l.from (rows_of l.blocks.items) ≡ take l.from (rows_of l.initial.blocks.items);
}
