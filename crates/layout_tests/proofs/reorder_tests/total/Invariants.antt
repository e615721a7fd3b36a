-- What stays true in the loop of `total`.
use Rattle.std.proofs.Common.{◌≡◌, ◌≤◌, ◌*◌, sum, take}
use Rattle.layout_tests.proofs.reorder_tests.total.Given as goal

abbrev pub invariant-loop-size : goal.invariant-loop-size
invariant-loop-size l = record {
  total : l.total ≡ sum (take l.size-index l.sizes);
  bound : l.total ≤ 4294967296 * l.size-index;
}
