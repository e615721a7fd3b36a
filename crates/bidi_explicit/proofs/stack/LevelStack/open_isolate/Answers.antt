-- The goals of `open_isolate` that are answered by hand.
use Rattle.std.proofs.Common.{rules, arith, ◌≤◌, length}
use Rattle.bidi_explicit.proofs.LadderLemmas.{ladder-room}
use Rattle.bidi_explicit.proofs.stack.LevelStack.open_isolate.Goals as goal

pub push-requires : goal.push-requires
push-requires c = let room : length c.self.inside.stack.items ≤ 126 = ladder-room c.self.inside.stack.items c.self.invariant.ladder in (omega arith, omega arith)

pub returns-then-self-gt0 : goal.returns-then-self-gt0
returns-then-self-gt0 c = search rules

pub returns-else-level-le-MAX_DEPTH : goal.returns-else-level-le-MAX_DEPTH
returns-else-level-le-MAX_DEPTH c = grind arith
