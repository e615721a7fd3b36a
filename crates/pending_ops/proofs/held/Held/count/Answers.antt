-- The goals of `count` that are answered by hand.
use Rattle.std.proofs.Common.{◌+◌, sym, ap, ◌∙◌}
use Rattle.bg_types.specs.OperationSet.{size}
use Rattle.pending_ops.specs.Waiting.{Waiting}
use Rattle.pending_ops.proofs.Tables.{IsDistinct-id_eq, keys_of}
use Rattle.pending_ops.proofs.Listing.{len-from_list, len-insertions_of}
use Rattle.pending_ops.proofs.held.Held.count.Goals as goal

pub returns : goal.returns
returns c =
    let slots = c.self.inside.slots.entries in
    let erased = c.self.inside.erased.keys in
    (λ i. (c.len.ensures.len ∙ sym (len-insertions_of slots (IsDistinct-id_eq (keys_of slots) c.len.ensures.unique))) i
    + (c.len-2.ensures.len ∙ sym (len-from_list erased (IsDistinct-id_eq erased c.len-2.ensures.unique))) i)
    ∙ ap (λ (w : Waiting). size w.held) c.self.view_is
