-- The front of the list has the numbers of the entries that were gone over, and the rest is as it was.
use Rattle.std.proofs.Common.{◌≡◌, ◌++◌, length, map, take, drop}
use Rattle.c_pictures.specs.Numbers.{entry_numbers}
use Rattle.c_documents.proofs.window_rows.write_entries.Given as goal

abbrev pub invariant-loop-entry : goal.invariant-loop-entry
invariant-loop-entry l = record {
  counted : l.number ≡ length l.yielded;
  written : l.out ≡ map entry_numbers (take l.number l.row.entries) ++ drop l.number l.fn.out;
}
