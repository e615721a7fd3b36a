-- The desks of a run.
use Rattle.std.specs.Prelude.{ℕ, List, map as each}
use Rattle.std.specs.List.{range_with_len}
use Rattle.desk_replica.specs.Desk.{Desk, fresh}

-- `count` desks that have nothing; desk k, from 1, has site k
abbrev pub fresh_desks : ℕ → List Desk
fresh_desks count = each fresh (range_with_len 1 count)
