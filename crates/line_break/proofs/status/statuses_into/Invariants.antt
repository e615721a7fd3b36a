-- The statuses are known up to the place, and there is room for those of the words that are left.
use Rattle.std.proofs.Common.{◌≡◌, ◌≤◌, ◌+◌, length, drop, vec_len, vec_capacity}
use Rattle.line_break.specs.Marked.{IsMarkedTo}
use Rattle.line_break.proofs.status.statuses_into.Given as goal

abbrev pub invariant-loop-word : goal.invariant-loop-word
invariant-loop-word l = record {
  marked : IsMarkedTo l.words (drop (1 + l.word-index) l.words) l.own.items l.state.number;
  count : vec_len l.own ≡ l.word-index;
  room : length l.words ≤ vec_capacity l.own;
}
