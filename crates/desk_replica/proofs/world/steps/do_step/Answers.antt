-- The goals of `do_step` that are answered by hand.
use Rattle.desk_replica.proofs.world.steps.do_step.Goals as goal

pub returns-in-Typed : goal.returns-in-Typed
returns-in-Typed g c = rw c.in-Typed.is c.type_char.ensures

pub returns-in-Erase : goal.returns-in-Erase
returns-in-Erase g c = rw c.in-Erase.is c.erase.ensures

pub returns-in-Deliver : goal.returns-in-Deliver
returns-in-Deliver g c = rw (c.in-Deliver.is, ← c.deref.ensures.value) c.deliver.ensures

pub returns-in-Merge : goal.returns-in-Merge
returns-in-Merge g c = rw (c.in-Merge.is, ← c.deref-in-Merge.ensures.value) c.merge.ensures
