-- The text stays split.
use Rattle.text_buffer.specs.Buffers.{paragraphs_in, IsSplit}
use Rattle.layout_tests.proofs.text_buffer_tests.CrowdedRow.comes_out.Given as goal

abbrev pub invariant-loop : goal.invariant-loop
invariant-loop l = IsSplit l.tables (paragraphs_in l.buffer)

abbrev pub invariant-loop-2 : goal.invariant-loop-2
invariant-loop-2 l = IsSplit l.tables (paragraphs_in l.buffer)
