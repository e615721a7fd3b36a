-- The paragraphs down to the number are laid out.
use Rattle.std.proofs.Common.{◌≡◌, ◌+◌, ◌*◌, ◌<◌, ◌≤◌, length, not, count_by, slice_range}
use Rattle.text_buffer.specs.Buffers.{paragraphs_in}
use Rattle.live_document.specs.Keeping.{flags, rows_of_texts, rows_weight, weight_held, IsKeptAt, IsMarked}
use Rattle.live_document.proofs.keeping.reach_up.Given as goal

abbrev pub invariant-loop-first : goal.invariant-loop-first
invariant-loop-first l = record {
  kept : IsKeptAt l.tables l.width l.base l.buffer;
  paragraphs : paragraphs_in l.buffer ≡ paragraphs_in l.fn.buffer;
  order : l.first ≤ l.number;
  marked : IsMarked (flags l.fn.buffer) l.first l.number (flags l.buffer);
  rows_are : l.rows ≡ length (rows_of_texts l.tables l.width l.base (slice_range (paragraphs_in l.fn.buffer) l.first l.number));
  needed : l.first < l.number → length (rows_of_texts l.tables l.width l.base (slice_range (paragraphs_in l.fn.buffer) (l.first + 1) l.number)) < l.wanted;
  few : l.rows ≤ 5_000_000;
  weight_is : l.weight ≡ rows_weight (rows_of_texts l.tables l.width l.base (slice_range (paragraphs_in l.fn.buffer) l.first l.number));
  most : l.weight ≤ 56_000_048 * l.rows;
  held_is : weight_held l.buffer ≡ weight_held l.fn.buffer + l.made;
  made_few : l.made ≤ l.weight;
  laid_are : l.laid ≡ count_by not (slice_range (flags l.fn.buffer) l.first l.number);
  laid_few : l.laid + l.first ≤ l.number;
}

abbrev pub decreases-loop-first : goal.decreases-loop-first
decreases-loop-first l = l.first
