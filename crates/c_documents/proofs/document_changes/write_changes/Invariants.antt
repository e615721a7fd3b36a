-- The front of the list has the numbers of the changes that were gone over, and the rest is as it was.
use Rattle.std.proofs.Common.{◌≡◌, ◌++◌, map, take, drop}
use Rattle.c_documents.specs.Numbers.{change_numbers}
use Rattle.c_documents.proofs.document_changes.write_changes.Given as goal

abbrev pub invariant-loop-number : goal.invariant-loop-number
invariant-loop-number l = l.out ≡ map change_numbers (take l.number l.changes) ++ drop l.number l.fn.out
