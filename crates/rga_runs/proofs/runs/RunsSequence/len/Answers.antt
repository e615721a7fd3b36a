-- The goal of `len` that is answered by hand.
use Rattle.std.proofs.Common.{◌∙◌}
use Rattle.rga_tree.proofs.Interface.{visible_row}
use Rattle.rga_runs.specs.Stretches.{elements_in}
use Rattle.rga_runs.specs.Indexed.{stretches_in}
use Rattle.rga_runs.proofs.Whole.{seen_elements}
use Rattle.rga_runs.proofs.runs.RunsSequence.len.Goals as goal

pub returns : goal.returns
returns c =
    let self = c.args.self.now in
    let chars = self.characters.items in
    let ss = stretches_in self.row in
    self.visible_are ∙ seen_elements chars ss self.stored ∙ visible_row (elements_in chars ss) self.keeps_walk.in_order
