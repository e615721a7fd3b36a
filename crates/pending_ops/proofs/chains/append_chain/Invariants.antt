-- What stays true in the loop of `append_chain`.
use Rattle.std.proofs.Common.{◌≡◌, ◌-◌, vec_len, vec_capacity}
use Rattle.pending_ops.specs.Chains.{slot_in, first_in}
use Rattle.pending_ops.proofs.Walks.{IsWalking}
use Rattle.pending_ops.proofs.chains.append_chain.Given as goal

abbrev pub invariant-loop-cursor : goal.invariant-loop-cursor
invariant-loop-cursor l = record {
  walking : IsWalking (slot_in l.slots.entries) (first_in l.firsts.entries l.fn.parent) l.cursor l.fn.queue.items l.queue.items (vec_capacity l.fn.queue);
  capacity : vec_capacity l.queue ≡ vec_capacity l.fn.queue;
}

abbrev pub decreases-loop-cursor : goal.decreases-loop-cursor
decreases-loop-cursor l = vec_capacity l.queue - vec_len l.queue
