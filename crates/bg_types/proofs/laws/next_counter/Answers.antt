-- The goals of `next_counter` that are answered by hand.
use Rattle.bg_types.proofs.NextCounter.{next-above, next-least}
use Rattle.bg_types.proofs.laws.next_counter.Goals as goal

pub returns-clause-above : goal.returns-clause-above
returns-clause-above c = next-above

pub returns-clause-least : goal.returns-clause-least
returns-clause-least c = next-least
