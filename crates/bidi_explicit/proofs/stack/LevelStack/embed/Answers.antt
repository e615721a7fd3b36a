-- The goals of `embed` that are answered by hand.
use Rattle.std.proofs.Common.{arith, ◌≤◌, length}
use Rattle.bidi_explicit.proofs.LadderLemmas.{ladder-room}
use Rattle.bidi_explicit.proofs.stack.LevelStack.embed.Goals as goal

pub push-requires : goal.push-requires
push-requires c = let room : length c.self.inside.stack.items ≤ 126 = ladder-room c.self.inside.stack.items c.self.invariant.ladder in (omega arith, omega arith)

pub returns-else-level-le-MAX_DEPTH : goal.returns-else-level-le-MAX_DEPTH
returns-else-level-le-MAX_DEPTH c = grind arith
