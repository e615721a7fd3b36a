-- What stays true in the loop of `add_spares`.
use Rattle.std.proofs.Common.{◌≡◌, ◌≤◌, ◌+◌}
use Rattle.std.specs.Prelude.{vec_len, vec_capacity}
use Rattle.rga_runs.proofs.lists.add_spares.Given as goal

abbrev pub invariant-loop : goal.invariant-loop
invariant-loop g l = record {
  added : vec_len l.spares ≡ vec_len l.initial.spares + l.counter;
  capacity : vec_capacity l.spares ≡ vec_capacity l.initial.spares;
  some : l.counter ≤ l.more;
}
