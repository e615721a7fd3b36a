-- The goals of `erased` that are answered by hand.
use Rattle.std.proofs.Common.{ap, sym, ◌∙◌}
use Rattle.std.specs.FinSet as set
use Rattle.pending_ops.specs.Waiting.{Waiting}
use Rattle.pending_ops.proofs.Tables.{list_any-id_eq}
use Rattle.pending_ops.proofs.Views.{contains-from_list}
use Rattle.pending_ops.proofs.held.Held.erased.Goals as goal

pub returns : goal.returns
returns c =
    c.contains.ensures ∙ list_any-id_eq c.self.inside.erased.keys c.args.id ∙ sym (contains-from_list c.self.inside.erased.keys c.args.id)
    ∙ ap (λ (w : Waiting). set.contains w.held.del c.args.id) c.self.view_is
