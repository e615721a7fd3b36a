-- The changes so far put characters.
use Rattle.std.proofs.Common.{take}
use Rattle.std.specs.Prelude.{string_bytes}
use Rattle.paragraphs.specs.Text.{code_points}
use Rattle.text_buffer.specs.Runs.{ArePut}
use Rattle.text_buffer.proofs.run.puts_from.Given as goal

abbrev pub invariant-loop-count : goal.invariant-loop-count
invariant-loop-count l = ArePut (take l.count l.changes) l.place (code_points (string_bytes l.initial.text)) (code_points (string_bytes l.text))
