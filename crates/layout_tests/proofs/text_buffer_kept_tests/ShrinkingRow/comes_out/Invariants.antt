-- The text stays split.
use Rattle.text_buffer.specs.Buffers.{paragraphs_in, IsSplit}
use Rattle.layout_tests.proofs.text_buffer_kept_tests.ShrinkingRow.comes_out.Given as goal

abbrev pub invariant-steps : goal.invariant-steps
invariant-steps l = IsSplit l.tables (paragraphs_in l.buffer)
