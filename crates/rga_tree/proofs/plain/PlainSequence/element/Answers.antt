-- The goals of `element` that are answered by hand.
use Rattle.std.proofs.Common.{ap, ◌∙◌}
use Rattle.std.specs.List.{find as find_in}
use Rattle.bg_types.specs.Identifier.{same_id}
use Rattle.rga_tree.proofs.Seen.{element_row}
use Rattle.rga_tree.proofs.plain.PlainSequence.element.Goals as goal

pub returns : goal.returns
returns c = c.find.ensures ∙ ap (find_in (λ e. same_id c.args.id e.id)) c.deref.ensures.value ∙ element_row c.args.self.now.row.items c.args.id c.args.self.now.keeps_walk
