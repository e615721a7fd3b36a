-- The goals of `count_below` that are answered by hand.
use Rattle.std.proofs.Common.{sym, ap, subst}
use Rattle.pending_ops.specs.Waiting.{Waiting}
use Rattle.pending_ops.specs.Below.{CountsBelow}
use Rattle.pending_ops.proofs.held.Held.count_below.Goals as goal

pub returns-clause-count : goal.returns-clause-count
returns-clause-count c =
    subst (λ n. CountsBelow c.args.self.now.held c.args.id n) (sym c.len-count.ensures)
    (c.list_below.ensures.count c.args.self.now.held (sym (ap (λ (w : Waiting). w.held.ins) c.self.view_is)))
