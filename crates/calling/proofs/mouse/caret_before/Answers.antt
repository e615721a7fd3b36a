-- The caret stands as the law of all places says.
use Rattle.std.proofs.Common.{sym, subst}
use Rattle.caret.specs.Laws.{StandsBeforeCluster}
use Rattle.calling.proofs.mouse.caret_before.Goals as goal

pub returns-clause-stands : goal.returns-clause-stands
returns-clause-stands c =
    subst (StandsBeforeCluster c.args.grid.now c.args.place) (sym c.at_place.ensures.caret)
    ((c.each_place.ensures c.args.grid.now c.args.place c.rows-rows.ensures.drawn).0 c.requires)
