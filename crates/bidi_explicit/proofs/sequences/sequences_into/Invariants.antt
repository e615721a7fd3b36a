-- The sequences that begin before the place are gathered, and the ends of their level runs are noted. A level run begins there.
use Rattle.std.proofs.Common.{◌≤◌, ◌-◌, length}
use Rattle.bidi_explicit.specs.Links.{linked, is_unclosed_at}
use Rattle.bidi_explicit.specs.LevelRuns.{IsEdge}
use Rattle.bidi_explicit.proofs.Walking.{IsDone}
use Rattle.bidi_explicit.proofs.sequences.sequences_into.Given as goal

abbrev pub invariant-loop-first : goal.invariant-loop-first
invariant-loop-first l = record {
  done : IsDone l.level (linked l.controls l.places) (is_unclosed_at l.controls) l.places l.first l.runs.items l.extents.items l.noted;
  edge : IsEdge l.places l.first;
  within : l.first ≤ length l.places;
}

abbrev pub decreases-loop-first : goal.decreases-loop-first
decreases-loop-first l = length l.places - l.first
