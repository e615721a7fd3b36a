-- The goals of `close_isolate` that are answered by hand.
use Rattle.std.proofs.Common.{arith, reverse}
use Rattle.bidi_explicit.proofs.LadderLemmas.{ladder-closed}
use Rattle.bidi_explicit.proofs.stack.LevelStack.close_isolate.Goals as goal

pub invariant_of-self-then-self-gt0-2 : goal.invariant_of-self-then-self-gt0-2
invariant_of-self-then-self-gt0-2 c =
    let p = ladder-closed (reverse c.self.inside.stack.items) c.self.inside.valid_isolates c.self.invariant.ladder c.self.invariant.counted (omega arith) in
    rw c.drop_isolate.ensures (record { ladder = p.0; counted = p.1 })
