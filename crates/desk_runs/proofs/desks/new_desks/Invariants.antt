-- What stays true in the loop of `new_desks`.
use Rattle.std.proofs.Common.{◌≡◌, ◌-◌}
use Rattle.desk_runs.specs.Desks.{fresh_desks}
use Rattle.desk_runs.proofs.desks.new_desks.Given as goal

abbrev pub invariant-loop-site : goal.invariant-loop-site
invariant-loop-site l = l.desks.items ≡ fresh_desks (l.site - 1)
