-- What stays true in the loop of `least_of`.
use Rattle.std.proofs.Common.{◌≡◌, true, not, take}
use Rattle.std.specs.List.{list_all, list_any}
use Rattle.std.specs.Ordering.{is_lt}
use Rattle.bg_types.specs.Identifier.{id_cmp, same_id}
use Rattle.rga_sequence.proofs.block.least_of.Given as goal

abbrev pub invariant-loop-e : goal.invariant-loop-e
invariant-loop-e l = record {
  below : list_all (λ e. not (is_lt (id_cmp e.id l.least))) (take l.e-index l.row) ≡ true;
  there : list_any (λ e. same_id l.least e.id) l.row ≡ true;
  counter : l.counter ≡ l.least.counter;
}
