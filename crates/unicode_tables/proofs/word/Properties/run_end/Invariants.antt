-- The code points so far have the word.
use Rattle.std.proofs.Common.{◌≡◌, ℕ, ◌+◌, ◌*◌, ◌<◌, ◌≤◌}
use Rattle.unicode_tables.specs.Word.{word_with}
use Rattle.unicode_tables.proofs.word.Properties.run_end.Given as goal

abbrev pub invariant-loop-place : goal.invariant-loop-place
invariant-loop-place l = (k : ℕ) → l.from ≤ k → k < l.place → word_with l.self (l.block * 256 + k) ≡ l.word
