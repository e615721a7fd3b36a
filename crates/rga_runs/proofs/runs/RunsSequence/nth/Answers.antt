-- The goals of `nth` that are answered by hand.
use Rattle.std.proofs.Common.{◌≡◌, ◌+◌, ◌<◌, ◌∙◌, [], List, Some, length, take, get_or, sym, ap, subst, arith}
use Rattle.std.specs.Prelude.{slice_get}
use Rattle.rga_tree.specs.Spot.{offset}
use Rattle.rga_runs.specs.declared.stretch.Stretch.{Stretch}
use Rattle.rga_runs.specs.declared.block.Block.{Block}
use Rattle.rga_runs.specs.Stretches.{elements_of, parts_in, elements_in, count_in}
use Rattle.rga_runs.specs.Blocks.{row_of, at_spot}
use Rattle.rga_runs.specs.BlockRows.{items_of}
use Rattle.rga_runs.specs.Indexed.{stretches_in}
use Rattle.rga_runs.proofs.BlockLists.{length-items}
use Rattle.rga_runs.proofs.Chunks.{get_or_row, at_less, one_there}
use Rattle.rga_runs.proofs.Rows.{length-row, count_before}
use Rattle.rga_runs.proofs.Whole.{read_element}
use Rattle.rga_runs.proofs.runs.RunsSequence.nth.Goals as goal

pub nth_spot-b-requires : goal.nth_spot-b-requires
nth_spot-b-requires c =
    let self = c.args.self.now in
    omega (arith, ap (λ bs. count_in (row_of (items_of bs))) c.deref.ensures.value, length-row self.characters.items (stretches_in self.row) self.stored, ap length self.keeps_walk.in_order, c.requires)

pub returns : goal.returns
returns c =
    let self = c.args.self.now in
    let r = self.row in
    let chars = self.characters.items in
    let xs = items_of r.blocks.items in
    let ss = stretches_in r in
    let b = c.nth_spot-b.result.0 in
    let j = c.nth_spot-b.result.1 in
    let k = c.nth_spot-b.result.2 in
    let is = c.deref.ensures.value in
    let there : b < length xs = omega (arith, c.nth_spot-b.ensures.block, ap length is, length-items r.blocks.items) in
    let within : j < length (get_or xs b []) = subst (λ (bs : List Block). j < length (get_or (items_of bs) b [])) is c.nth_spot-b.ensures.within in
    let inside = subst (λ (bs : List Block). (d : Stretch) → k < (get_or (get_or (items_of bs) b []) j d).count) is c.nth_spot-b.ensures.inside in
    let place = subst (λ (bs : List Block). count_in (take (at_spot (items_of bs) b j) (row_of (items_of bs))) + k ≡ c.args.j) is c.nth_spot-b.ensures.place in
    let p = at_spot xs b j in
    let less = at_less xs b j there within in
    let d = one_there ss p less in
    let item = get_or_row xs b j d there within in
    let read : slice_get (elements_of chars (get_or ss p d)) k ≡ Some c.at.result = ap (λ (s : Stretch). slice_get (elements_of chars s) k) item ∙ c.at.ensures d in
    let at : offset (parts_in chars ss) p k ≡ c.args.j = omega (arith, count_before chars ss p self.stored, place) in
    ap (λ l. slice_get l c.args.j) (sym self.keeps_walk.in_order) ∙ ap (slice_get (elements_in chars ss)) (sym at)
    ∙ read_element chars ss p k d c.at.result self.stored less (omega (arith, inside d, ap (λ (s : Stretch). s.count) item)) read
