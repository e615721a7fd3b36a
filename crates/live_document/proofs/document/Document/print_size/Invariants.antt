-- The rows so far are counted, and the next one is read there.
use Rattle.std.proofs.Common.{◌≡◌, ◌+◌, length, drop, take, flat_map}
use Rattle.std.specs.Prelude.{encode_utf8_all}
use Rattle.rga_tree.specs.TextOf.{text}
use Rattle.cell_grid.specs.Print.{row_text}
use Rattle.live_document.specs.Showing.{rows_from}
use Rattle.live_document.proofs.document.Document.print_size.Given as goal

abbrev pub invariant-loop : goal.invariant-loop
invariant-loop l = record {
  paragraphs : l.cursor.paragraphs ≡ l.initial.cursor.paragraphs;
  same : drop l.row (rows_from l.cursor.paragraphs l.cursor.number) ≡ drop (l.initial.row + l.counter) (rows_from l.initial.cursor.paragraphs l.initial.cursor.number);
  so_far : l.size ≡ length (flat_map (row_text l.self.tables (encode_utf8_all (text l.self.desk.set))) (take l.counter l.self.window.rows));
}
