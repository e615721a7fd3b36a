-- The paragraphs up to the number are laid out.
use Rattle.std.proofs.Common.{◌≡◌, ◌+◌, ◌*◌, ◌-◌, ◌<◌, ◌≤◌, length, not, count_by, slice_range}
use Rattle.text_buffer.specs.Buffers.{paragraphs_in}
use Rattle.live_document.specs.Keeping.{flags, rows_of_texts, rows_weight, weight_held, IsKeptAt, IsMarked}
use Rattle.live_document.proofs.keeping.reach_down.Given as goal

abbrev pub invariant-loop-end : goal.invariant-loop-end
invariant-loop-end l = record {
  kept : IsKeptAt l.tables l.width l.base l.buffer;
  paragraphs : paragraphs_in l.buffer ≡ paragraphs_in l.fn.buffer;
  count_is : l.count ≡ length l.fn.buffer;
  order : l.number ≤ l.end;
  within : l.end ≤ l.count;
  marked : IsMarked (flags l.fn.buffer) l.number l.end (flags l.buffer);
  rows_are : l.rows ≡ length (rows_of_texts l.tables l.width l.base (slice_range (paragraphs_in l.fn.buffer) l.number l.end));
  needed : l.number < l.end → length (rows_of_texts l.tables l.width l.base (slice_range (paragraphs_in l.fn.buffer) l.number (l.end - 1))) < l.wanted;
  few : l.rows ≤ 5_000_000;
  weight_is : l.weight ≡ rows_weight (rows_of_texts l.tables l.width l.base (slice_range (paragraphs_in l.fn.buffer) l.number l.end));
  most : l.weight ≤ 56_000_048 * l.rows;
  held_is : weight_held l.buffer ≡ weight_held l.fn.buffer + l.made;
  made_few : l.made ≤ l.weight;
  laid_are : l.laid ≡ count_by not (slice_range (flags l.fn.buffer) l.number l.end);
  laid_few : l.laid + l.number ≤ l.end;
}

abbrev pub decreases-loop-end : goal.decreases-loop-end
decreases-loop-end l = l.count - l.end
