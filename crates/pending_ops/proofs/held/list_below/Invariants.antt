-- What stays true in the loop of `list_below`.
use Rattle.std.proofs.Common.{◌≡◌, ◌-◌, length, vec_capacity}
use Rattle.pending_ops.specs.Chains.{slot_in}
use Rattle.pending_ops.proofs.Counting.{IsListing}
use Rattle.pending_ops.proofs.held.list_below.Given as goal

abbrev pub invariant-loop-done : goal.invariant-loop-done
invariant-loop-done l = record {
  listing : IsListing (slot_in l.slots.entries) l.fn.id l.queue.items l.done;
  capacity : vec_capacity l.queue ≡ vec_capacity l.fn.queue;
}

abbrev pub decreases-loop-done : goal.decreases-loop-done
decreases-loop-done l = length l.slots.entries - l.done
