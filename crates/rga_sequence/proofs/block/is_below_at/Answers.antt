-- The goal of `is_below_at` that is answered by hand.
use Rattle.std.proofs.Common.{rules}
use Rattle.rga_sequence.proofs.block.is_below_at.Goals as goal

pub returns-then-own-counter-2 : goal.returns-then-own-counter-2
returns-then-own-counter-2 c = search rules
