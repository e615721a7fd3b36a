-- What stays true in the loop of `fill`.
use Rattle.std.proofs.Common.{◌≡◌, ℕ, ◌≤◌, max, get_or}
use Rattle.std.specs.Prelude.{◌&&◌, nat_le, nat_lt, if◌then◌else◌}
use Rattle.unicode_tables.proofs.page.fill.Given as goal

abbrev pub invariant-loop-k : goal.invariant-loop-k
invariant-loop-k g l =
    ((j : ℕ) (d : g.row.V.Denot) → get_or l.row j d ≡ (if nat_le l.from j && nat_lt j l.k then l.value else get_or l.fn.row j d))
    × (l.k ≤ max l.from l.to)
