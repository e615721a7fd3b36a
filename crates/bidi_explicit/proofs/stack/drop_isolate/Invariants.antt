-- What stays true in the loop of `drop_isolate`.
use Rattle.std.proofs.Common.{◌≡◌, reverse}
use Rattle.arrayvec.specs.ArrayVec.{array_vec_len}
use Rattle.bidi_explicit.specs.Flat.{below_isolate}
use Rattle.bidi_explicit.proofs.stack.drop_isolate.Given as goal

abbrev pub invariant-loop-entry : goal.invariant-loop-entry
invariant-loop-entry l = below_isolate (reverse l.stack.items) ≡ below_isolate (reverse l.initial.stack.items)

abbrev pub decreases-loop-entry : goal.decreases-loop-entry
decreases-loop-entry l = array_vec_len l.stack
