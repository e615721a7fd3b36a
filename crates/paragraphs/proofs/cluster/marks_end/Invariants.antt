-- All so far are marks, and none of them is wide.
use Rattle.std.proofs.Common.{◌≡◌, ℕ, ◌-◌, ◌<◌, ◌≤◌, true, false, length, take, drop, get_or}
use Rattle.std.specs.List.{list_any}
use Rattle.unicode_tables.specs.declared.word.Word.{Word}
use Rattle.paragraphs.specs.Classes.{is_wide}
use Rattle.paragraphs.specs.Marked.{is_mark}
use Rattle.paragraphs.proofs.cluster.marks_end.Given as goal

abbrev pub invariant-loop-k : goal.invariant-loop-k
invariant-loop-k l = record {
  some : 0 < l.k;
  within : l.k ≤ length l.points;
  marks : (j : ℕ) → 0 < j → j < l.k → is_mark (get_or l.points j 0) ≡ true;
  narrow : list_any (λ (w : Word). is_wide w.ea) (take (l.k - 1) (drop 1 l.words)) ≡ false;
}
