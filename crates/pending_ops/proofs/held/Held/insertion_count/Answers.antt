-- The goals of `insertion_count` that are answered by hand.
use Rattle.std.proofs.Common.{sym, ap, ◌∙◌}
use Rattle.std.specs.FinMap as map
use Rattle.pending_ops.specs.Waiting.{Waiting}
use Rattle.pending_ops.proofs.Tables.{IsDistinct-id_eq, keys_of}
use Rattle.pending_ops.proofs.Listing.{len-insertions_of}
use Rattle.pending_ops.proofs.held.Held.insertion_count.Goals as goal

pub returns : goal.returns
returns c =
    c.len.ensures.len ∙ sym (len-insertions_of c.self.inside.slots.entries (IsDistinct-id_eq (keys_of c.self.inside.slots.entries) c.len.ensures.unique))
    ∙ ap (λ (w : Waiting). map.len w.held.ins) c.self.view_is
