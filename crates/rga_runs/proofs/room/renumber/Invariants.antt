-- What stays true in the loop of `renumber`.
use Rattle.std.proofs.Common.{◌≡◌, ◌<◌, ℕ, get_or, Some}
use Rattle.std.specs.Prelude.{slice_get}
use Rattle.rga_runs.specs.BlockRows.{numbers_of}
use Rattle.rga_runs.proofs.room.renumber.Given as goal

abbrev pub invariant-loop-p : goal.invariant-loop-p
invariant-loop-p l = (k : ℕ) → k < l.p → slice_get l.places (get_or (numbers_of l.blocks) k 0) ≡ Some k
