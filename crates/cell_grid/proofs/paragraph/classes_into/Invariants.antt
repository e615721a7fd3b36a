-- The classes so far are those that the words so far tell, and there is room for the rest.
use Rattle.std.proofs.Common.{◌≡◌, ◌≤◌, map, take, length, vec_len, vec_capacity}
use Rattle.unicode_tables.specs.declared.word.Word.{Word}
use Rattle.cell_grid.proofs.paragraph.classes_into.Given as goal

abbrev pub invariant-loop-word : goal.invariant-loop-word
invariant-loop-word l = record {
  made : l.own.items ≡ map (λ (w : Word). w.bidi) (take l.word-index l.words);
  count : vec_len l.own ≡ l.word-index;
  room : length l.words ≤ vec_capacity l.own;
}
