-- What stays true in the loop of `greater_bounds`.
use Rattle.std.proofs.Common.{◌≡◌, ◌<◌, ◌≤◌, ℕ, true, length, get_or}
use Rattle.std.specs.Ordering.{is_lt}
use Rattle.bg_types.specs.Identifier.{Identifier, id_cmp}
use Rattle.rga_runs.proofs.skip.greater_bounds.Given as goal

abbrev pub invariant-loop-k : goal.invariant-loop-k
invariant-loop-k l = record {
  from : l.g ≤ l.k;
  greater : (j : ℕ) (d : Identifier) → l.g ≤ j → j < l.k → j < length l.bounds → is_lt (id_cmp l.id (get_or l.bounds j d)) ≡ true;
}
