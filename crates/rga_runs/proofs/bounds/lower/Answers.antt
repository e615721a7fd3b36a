-- The goals of `lower` that are answered by hand.
use Rattle.std.proofs.Common.{◌/◌, sym, subst}
use Rattle.std.specs.Prelude.{insert, set, get_or, []}
use Rattle.rga_runs.specs.Bounds.{AreBounds}
use Rattle.rga_runs.proofs.Neighbours.{bounds-lower}
use Rattle.rga_runs.proofs.bounds.lower.Goals as goal

pub returns-then-g-bounds : goal.returns-then-g-bounds
returns-then-g-bounds c = λ xs at n is bounds.
    subst (λ low. AreBounds (set c.args.bounds.now (c.args.q / 32) low) (set xs c.args.q (insert (get_or xs c.args.q []) at n))) (sym c.lesser.ensures)
    (bounds-lower c.args.bounds.now xs c.args.q at n c.args.id c.index-bounds-g.result is c.if-g-bounds.true c.index-bounds-g.is bounds)
