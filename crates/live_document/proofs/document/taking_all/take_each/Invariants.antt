-- The operations so far were taken, and are told unless there was no memory for that.
use Rattle.std.proofs.Common.{◌≡◌, ◌-◌, ◌<◌, true, false, take, length}
use Rattle.std.specs.Prelude.{vec_len, vec_capacity}
use Rattle.desk_replica.specs.Taking.{AreTaken, AreTold, IsListPaid}
use Rattle.live_document.proofs.document.taking_all.take_each.Given as goal

abbrev pub invariant-loop-number : goal.invariant-loop-number
invariant-loop-number l = record {
  taken : AreTaken l.fn.desk l.ops l.number l.desk;
  told : l.told ≡ true → AreTold l.fn.desk.set (take l.number l.ops) l.fn.changes.items l.changes.items;
  behind : take (length l.fn.changes.items) l.changes.items ≡ l.fn.changes.items;
  some : l.told ≡ false → 0 < l.number;
  paid : IsListPaid l.fn.desk (length l.ops) (vec_len l.fn.changes) (vec_capacity l.fn.changes) → (l.told ≡ true) × IsListPaid l.desk (length l.ops - l.number) (vec_len l.changes) (vec_capacity l.changes);
}
