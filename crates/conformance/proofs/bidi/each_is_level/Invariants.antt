-- What stays true in the loop of `each_is_level`.
use Rattle.std.proofs.Common.{◌≡◌, ℕ, ◌<◌, true, None, slice_index, slice_index_or}
use Rattle.conformance.specs.Agreement.{is_level}
use Rattle.conformance.proofs.bidi.each_is_level.Given as goal

abbrev pub invariant-loop-i : goal.invariant-loop-i
invariant-loop-i l = (k : ℕ) → k < l.i → is_level (slice_index_or l.wanted k None) (slice_index l.came k) ≡ true
