-- No type from the place on is strong.
use Rattle.std.proofs.Common.{◌≡◌, take}
use Rattle.bracket_pairs.specs.N0.{last_strong}
use Rattle.bracket_pairs.proofs.n0.last_strong.Given as goal

abbrev pub invariant-loop-place : goal.invariant-loop-place
invariant-loop-place l = last_strong l.before (take l.place l.types) ≡ last_strong l.before l.types
