-- What stays true in the loop of `rehome`.
use Rattle.std.proofs.Common.{◌≡◌, ℕ, List, length, take, drop}
use Rattle.std.specs.Prelude.{All, vec_len}
use Rattle.rga_runs.specs.declared.stretch.Stretch.{Stretch}
use Rattle.rga_runs.specs.Stretches.{IsOutside}
use Rattle.rga_runs.specs.Keyed.{look_in}
use Rattle.rga_runs.specs.Leaves.{all_keys}
use Rattle.rga_runs.specs.Indexed.{IsHome, AreKnown}
use Rattle.rga_runs.proofs.room.rehome.Given as goal

abbrev pub invariant-loop-at : goal.invariant-loop-at
invariant-loop-at l = record {
  done : All (IsHome (look_in (all_keys l.keys.leaves.items)) l.number) (take l.at l.moved);
  left : (n : ℕ) × All (IsHome (look_in (all_keys l.keys.leaves.items)) n) (drop l.at l.moved);
  others : (s : Stretch) (n : ℕ) → All (λ t. IsOutside t.first s) l.moved → IsHome (look_in (all_keys l.fn.keys.leaves.items)) n s → IsHome (look_in (all_keys l.keys.leaves.items)) n s;
  known : (ss : List Stretch) → AreKnown (look_in (all_keys l.fn.keys.leaves.items)) ss → AreKnown (look_in (all_keys l.keys.leaves.items)) ss;
  len : length (all_keys l.keys.leaves.items) ≡ length (all_keys l.fn.keys.leaves.items);
  leaves : vec_len l.keys.leaves ≡ vec_len l.fn.keys.leaves;
  spares : vec_len l.keys.spares ≡ vec_len l.fn.keys.spares;
}
