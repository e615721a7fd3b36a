-- One cluster.
use Rattle.std.proofs.Common.{arith}
use Rattle.cell_grid.proofs.Alone.{alone-entries, alone-columns, alone-reach}
use Rattle.cell_grid.proofs.cluster_run.ClusterRun.of.Goals as goal

pub returns-clause-entries : goal.returns-clause-entries
returns-clause-entries c = alone-entries c.of-span.result c.args.entry c.of-span.ensures.span c.of-span.ensures.further

pub returns-clause-columns : goal.returns-clause-columns
returns-clause-columns c = alone-columns c.of-span.result c.args.entry c.of-span.ensures.span c.of-span.ensures.further

pub returns-clause-reach : goal.returns-clause-reach
returns-clause-reach c =
    alone-reach c.of-span.result c.args.entry c.of-span.ensures.span c.of-span.ensures.further
    (record { first_byte = omega arith; end_byte = omega arith; first_place = omega arith; end_place = omega arith })
