-- What stays true in the loop of `resolve_pairs`.
use Rattle.std.proofs.Common.{◌≡◌, length, drop}
use Rattle.bracket_pairs.specs.Found.{AreInOrder}
use Rattle.bracket_pairs.specs.Runs.{IsRun}
use Rattle.bracket_pairs.proofs.PairSteps.{IsResolved}
use Rattle.bracket_pairs.proofs.n0.resolve_pairs.Given as goal

abbrev pub invariant-loop-opening : goal.invariant-loop-opening
invariant-loop-opening l = record {
  pairs : IsResolved l.embedding l.fn.sos l.openings l.before_w1 l.fn.types l.opening-index l.from l.before l.types;
  order : AreInOrder l.from (length l.fn.types) (drop l.opening-index l.openings);
  long : length l.types ≡ length l.fn.types;
  run : IsRun l.before_w1 l.types l.run;
}
