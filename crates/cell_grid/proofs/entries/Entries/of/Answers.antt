-- None is passed.
use Rattle.std.proofs.Common.{arith}
use Rattle.cell_grid.proofs.entries.Entries.of.Goals as goal

pub invariant_of-result : goal.invariant_of-result
invariant_of-result c = record { reach = c.requires.reach; fits = c.requires.fits; within = omega arith }
