-- The words so far are those of the code points so far, and there is room for the rest.
use Rattle.std.proofs.Common.{◌≡◌, ◌≤◌, map, take, length, vec_len, vec_capacity}
use Rattle.unicode_tables.specs.Word.{word_of}
use Rattle.unicode_tables.proofs.tables.Tables.words_into.Given as goal

abbrev pub invariant-loop-c : goal.invariant-loop-c
invariant-loop-c l = record {
  made : l.own.items ≡ map (word_of l.self) (take l.c-index l.points);
  count : vec_len l.own ≡ l.c-index;
  room : length l.points ≤ vec_capacity l.own;
}
