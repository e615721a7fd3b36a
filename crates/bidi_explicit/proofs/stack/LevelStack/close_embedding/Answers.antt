-- The goals of `close_embedding` that are answered by hand.
use Rattle.std.proofs.Common.{rules, arith}
use Rattle.bidi_explicit.proofs.LadderLemmas.{ladder-room}
use Rattle.bidi_explicit.proofs.stack.LevelStack.close_embedding.Goals as goal

pub drop_embedding-requires : goal.drop_embedding-requires
drop_embedding-requires c = omega (arith, ladder-room c.self.inside.stack.items c.self.invariant.ladder)

pub returns-then-self-gt0 : goal.returns-then-self-gt0
returns-then-self-gt0 c = search rules

pub returns-else-self-gt0 : goal.returns-else-self-gt0
returns-else-self-gt0 c = grind arith
