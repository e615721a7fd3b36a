-- What stays true in the loop of `rehome`.
use Rattle.std.proofs.Common.{◌≡◌, ℕ, take, cond, Some}
use Rattle.bg_types.specs.Identifier.{Identifier}
use Rattle.rga_sequence.specs.BlockRows.{has}
use Rattle.rga_sequence.specs.Grouped.{home_in, IsGrouped, HasIndexRoom}
use Rattle.rga_sequence.proofs.Homes.{id_eq}
use Rattle.rga_sequence.proofs.index.rehome.Given as goal

abbrev pub invariant-loop-e : goal.invariant-loop-e
invariant-loop-e l = record {
  home : (q : Identifier) → home_in id_eq l.index q ≡ cond (has q (take l.e-index l.moved)) (Some l.number) (home_in id_eq l.fn.index q);
  grouped : IsGrouped id_eq l.index;
  room : (n : ℕ) → HasIndexRoom l.fn.index n → HasIndexRoom l.index n;
}
