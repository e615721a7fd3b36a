-- What stays true in the loop of `hidden_in`.
use Rattle.std.proofs.Common.{◌≡◌, ◌+◌, take}
use Rattle.rga_sequence.specs.Blocks.{seen}
use Rattle.rga_sequence.proofs.counted.hidden_in.Given as goal

abbrev pub invariant-loop-e : goal.invariant-loop-e
invariant-loop-e l = record {
  hidden : l.hidden + seen (take l.e-index l.row) ≡ l.e-index;
  read : l.read ≡ l.e-index;
}
