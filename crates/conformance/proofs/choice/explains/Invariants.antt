-- What stays true in the loop of `explains`.
use Rattle.std.proofs.Common.{◌≡◌, ℕ, ◌+◌, ◌<◌, true, false, slice_index_or}
use Rattle.conformance.specs.Choices.{explains_at}
use Rattle.conformance.proofs.choice.explains.Given as goal

abbrev pub invariant-loop-i : goal.invariant-loop-i
invariant-loop-i l = (k : ℕ) → k < l.i → explains_at l.tables l.points l.choice (k + 1) (slice_index_or l.wanted k false) (slice_index_or l.came k false) ≡ true
