-- The row is the same, counted from a later paragraph.
use Rattle.std.proofs.Common.{◌≡◌, ◌-◌, ◌<◌, length, drop}
use Rattle.live_document.specs.Keeping.{rows_at}
use Rattle.live_document.specs.Showing.{rows_from}
use Rattle.live_document.proofs.reading.go_to_row.Given as goal

abbrev pub invariant-loop-count : goal.invariant-loop-count
invariant-loop-count l = record {
  paragraphs : l.cursor.paragraphs ≡ l.fn.cursor.paragraphs;
  there : l.cursor.number < length l.cursor.paragraphs;
  count_is : l.count ≡ length (rows_at l.cursor.paragraphs l.cursor.number);
  inside : l.row < length (rows_from l.cursor.paragraphs l.cursor.number);
  same : drop l.row (rows_from l.cursor.paragraphs l.cursor.number) ≡ drop l.fn.row (rows_from l.fn.cursor.paragraphs l.fn.cursor.number);
}

abbrev pub decreases-loop-count : goal.decreases-loop-count
decreases-loop-count l = length l.cursor.paragraphs - l.cursor.number
