-- The goal of `char_at` that is answered by hand.
use Rattle.std.proofs.Common.{[], get_or}
use Rattle.rga_runs.specs.BlockRows.{items_of}
use Rattle.rga_runs.proofs.Chunks.{one_there}
use Rattle.rga_runs.proofs.runs.RunsSequence.char_at.Goals as goal

pub returns-clause-value : goal.returns-clause-value
returns-clause-value c =
    let b = c.shown-b.result.0 in
    let d = one_there (get_or (items_of c.shown-b.new.self.row.blocks.items) b []) c.shown-b.result.1 c.shown-b.ensures.within in
    c.shown-b.ensures.ch d c.at.result (c.at.ensures d)
