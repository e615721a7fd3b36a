-- The goals of `put` that are answered by hand.
use Rattle.rga_sequence.proofs.index.put.Goals as goal

pub returns-clause-room : goal.returns-clause-room
returns-clause-room c = λ n room. c.write.ensures.room n (c.find_or_add-place.ensures.room n room)
