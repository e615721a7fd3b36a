-- What stays true in the loop of `fresh_desks`.
use Rattle.std.proofs.Common.{◌≡◌, take}
use Rattle.std.specs.Prelude.{map as each}
use Rattle.desk_replica.specs.Desk.{fresh}
use Rattle.desk_replica.proofs.world.fresh_desks.Given as goal

abbrev pub invariant-loop-site : goal.invariant-loop-site
invariant-loop-site g l = l.desks.items ≡ each fresh (take l.site-index l.sites)
