-- The firsts so far, and those of the groups that are left, are all.
use Rattle.std.proofs.Common.{◌≡◌, ◌++◌, sum, take}
use Rattle.reorder.specs.LineLevels.{group_firsts}
use Rattle.reorder.proofs.L1.{firsts_from}
use Rattle.reorder.proofs.line.line_levels.Given as goal

abbrev pub invariant-loop-size : goal.invariant-loop-size
invariant-loop-size l = record {
  start : l.start ≡ sum (take l.size-index l.sizes);
  so_far : l.firsts.items ++ firsts_from l.sizes l.after.items l.size-index l.start ≡ group_firsts l.sizes l.after.items;
}
