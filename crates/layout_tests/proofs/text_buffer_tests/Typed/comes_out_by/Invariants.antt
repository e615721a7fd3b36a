-- The text stays split.
use Rattle.text_buffer.specs.Buffers.{paragraphs_in, IsSplit}
use Rattle.layout_tests.proofs.text_buffer_tests.Typed.comes_out_by.Given as goal

abbrev pub invariant-loop-step : goal.invariant-loop-step
invariant-loop-step l = IsSplit l.tables (paragraphs_in l.buffer)
