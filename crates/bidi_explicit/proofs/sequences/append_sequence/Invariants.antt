-- The walk has come to the place.
use Rattle.std.proofs.Common.{◌≡◌, ◌-◌, length, take}
use Rattle.bidi_explicit.specs.Links.{linked}
use Rattle.bidi_explicit.specs.LevelRuns.{AreNoted, run_places}
use Rattle.bidi_explicit.proofs.Chains.{IsWalkedTo}
use Rattle.bidi_explicit.proofs.sequences.append_sequence.Given as goal

abbrev pub invariant-loop-place : goal.invariant-loop-place
invariant-loop-place l = record {
  walked : IsWalkedTo (linked l.controls l.places) (length l.places) l.first l.last (run_places l.fn.runs.items) (run_places l.runs.items);
  before : take (length l.fn.runs.items) l.runs.items ≡ l.fn.runs.items;
  told : AreNoted l.places l.runs.items l.ends;
}

abbrev pub decreases-loop-place : goal.decreases-loop-place
decreases-loop-place l = length l.places - l.last
