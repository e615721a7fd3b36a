-- The changes so far are in range, and lead to a text of so many code points.
use Rattle.std.proofs.Common.{◌≡◌, ◌+◌, ◌≤◌, ℕ, List, length, take}
use Rattle.text_buffer.proofs.Runs.{AreCounted}
use Rattle.text_buffer.proofs.run.are_in_range.Given as goal

abbrev pub invariant-loop-change : goal.invariant-loop-change
invariant-loop-change l = record {
  few : l.now ≤ l.len + l.change-index;
  counted : (text : List ℕ) → length text ≡ l.len → AreCounted text (take l.change-index l.changes) l.now;
}
