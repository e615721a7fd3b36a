-- A fresh desk has no text, and an empty buffer has that.
use Rattle.std.proofs.Common.{ap, sym, ◌∙◌}
use Rattle.rga_tree.specs.TextOf.{text}
use Rattle.calling.proofs.meeting.read_along.Goals as goal

pub take_into-requires : goal.take_into-requires
take_into-requires g c = c.new-buffer.ensures.items ∙ sym (ap text c.requires.fresh ∙ c.told_changes.ensures.nothing)
