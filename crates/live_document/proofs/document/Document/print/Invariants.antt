-- The rows so far are written, and the next one is read there.
use Rattle.std.proofs.Common.{◌≡◌, ◌+◌, false, drop, take, flat_map}
use Rattle.std.specs.Io.KnownBytes.{Appends}
use Rattle.std.specs.Prelude.{encode_utf8_all}
use Rattle.rga_tree.specs.TextOf.{text}
use Rattle.cell_grid.specs.Print.{row_text}
use Rattle.live_document.specs.Showing.{rows_from}
use Rattle.live_document.proofs.document.Document.print.Given as goal

abbrev pub invariant-loop : goal.invariant-loop
invariant-loop g l = record {
  working : g.W.Sink.has_failed l.sink ≡ false;
  paragraphs : l.cursor.paragraphs ≡ l.initial.cursor.paragraphs;
  same : drop l.row (rows_from l.cursor.paragraphs l.cursor.number) ≡ drop (l.initial.row + l.counter) (rows_from l.initial.cursor.paragraphs l.initial.cursor.number);
  so_far : Appends (g.W.Sink.written l.fn.sink) (g.W.Sink.written l.sink) (flat_map (row_text l.self.tables (encode_utf8_all (text l.self.desk.set))) (take l.counter l.self.window.rows));
}
