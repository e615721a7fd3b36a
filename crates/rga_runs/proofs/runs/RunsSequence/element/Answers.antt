-- The goals of `element` that are answered by hand.
use Rattle.std.proofs.Common.{◌≡◌, ◌<◌, ◌∙◌, Some, sym, ap, length, get_or, arith}
use Rattle.std.specs.Prelude.{slice_get}
use Rattle.rga_tree.proofs.Interface.{element_row, find-until, find_none}
use Rattle.rga_runs.specs.declared.stretch.Stretch.{Stretch}
use Rattle.rga_runs.specs.Stretches.{elements_of, elements_in}
use Rattle.rga_runs.specs.Blocks.{at_spot}
use Rattle.rga_runs.specs.BlockRows.{items_of}
use Rattle.rga_runs.specs.Indexed.{stretches_in}
use Rattle.rga_runs.proofs.BlockLists.{length-items}
use Rattle.rga_runs.proofs.Chunks.{get_or_row, one_there}
use Rattle.rga_runs.proofs.Rows.{outside_row}
use Rattle.rga_runs.proofs.Spots.{stands_at, place_is}
use Rattle.rga_runs.proofs.Whole.{kept_apart, stands_has, read_element}
use Rattle.rga_runs.proofs.runs.RunsSequence.element.Goals as goal

pub spot-requires-clause-apart : goal.spot-requires-clause-apart
spot-requires-clause-apart c = kept_apart c.args.self.now.characters.items (stretches_in c.args.self.now.row) c.args.self.now.stored c.args.self.now.keeps_walk

pub returns-in_err-b : goal.returns-in_err-b
returns-in_err-b c =
    let self = c.args.self.now in
    let chars = self.characters.items in
    let ss = stretches_in self.row in
    let row = elements_in chars ss in
    c.from_residual.ensures ∙ sym (find_none c.args.id row (outside_row c.args.id chars ss c.in_err-b.ensures.absent)) ∙ element_row row c.args.id self.keeps_walk

pub returns : goal.returns
returns c =
    let self = c.args.self.now in
    let r = self.row in
    let chars = self.characters.items in
    let xs = items_of r.blocks.items in
    let ss = stretches_in r in
    let row = elements_in chars ss in
    let id = c.args.id in
    let b = c.in_ok-b.b in
    let j = c.in_ok-b.j in
    let k = c.in_ok-b.k in
    let f = c.in_ok-b.ensures in
    let there : b < length xs = omega (arith, length-items r.blocks.items, r.blocks.ok, f.block) in
    let at = stands_at xs b j k id there f.within f.inside f.there in
    let p = at_spot xs b j in
    let d = one_there ss p at.there in
    let apart = kept_apart chars ss self.stored self.keeps_walk in
    let read : slice_get (elements_of chars (get_or ss p d)) k ≡ Some c.at.result = ap (λ (s : Stretch). slice_get (elements_of chars s) k) (get_or_row xs b j d there f.within) ∙ c.at.ensures d in
    sym (read_element chars ss p k d c.at.result self.stored at.there (at.inside d) read) ∙ ap (slice_get row) (place_is id chars ss p k self.stored apart at)
    ∙ sym (find-until id row (stands_has id chars ss p k self.stored apart at)) ∙ element_row row id self.keeps_walk
