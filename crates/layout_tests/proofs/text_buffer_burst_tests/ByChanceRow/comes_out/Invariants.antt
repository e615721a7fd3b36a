-- The text stays split.
use Rattle.text_buffer.specs.Buffers.{paragraphs_in, IsSplit}
use Rattle.layout_tests.proofs.text_buffer_burst_tests.ByChanceRow.comes_out.Given as goal

abbrev pub invariant-bursts : goal.invariant-bursts
invariant-bursts l = IsSplit l.tables (paragraphs_in l.buffer)
