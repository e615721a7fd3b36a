-- The text stays split.
use Rattle.text_buffer.specs.Buffers.{paragraphs_in, IsSplit}
use Rattle.layout_tests.proofs.text_buffer_kept_tests.KeepingRow.comes_out.Given as goal

abbrev pub invariant-edits : goal.invariant-edits
invariant-edits l = IsSplit l.tables (paragraphs_in l.buffer)
