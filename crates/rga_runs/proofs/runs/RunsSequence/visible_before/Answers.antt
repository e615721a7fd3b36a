-- The goals of `visible_before` that are answered by hand.
use Rattle.std.proofs.Common.{◌<◌, ◌+◌, ◌∙◌, [], List, length, take, get_or, ap, sym, subst, arith}
use Rattle.std.specs.Prelude.{All}
use Rattle.rga_tree.proofs.Interface.{before_row, before_spot}
use Rattle.rga_runs.specs.declared.stretch.Stretch.{Stretch}
use Rattle.rga_runs.specs.declared.block.Block.{Block}
use Rattle.rga_runs.specs.Typed.{unset}
use Rattle.rga_runs.specs.Stretches.{parts_in, elements_in, visible_in, IsOutside}
use Rattle.rga_runs.specs.Blocks.{row_of, at_spot}
use Rattle.rga_runs.specs.BlockRows.{items_of}
use Rattle.rga_runs.specs.Sums.{AreSums}
use Rattle.rga_runs.specs.Indexed.{stretches_in}
use Rattle.rga_runs.proofs.Chunks.{get_or_row, one_there}
use Rattle.rga_runs.proofs.Places.{some_of}
use Rattle.rga_runs.proofs.Rows.{is_placed, length-parts, length-row, seen_front, seen_in_part, visible_le}
use Rattle.rga_runs.proofs.Spots.{spot_there, spot_stands, place_is, part_within}
use Rattle.rga_runs.proofs.Whole.{kept_apart}
use Rattle.rga_runs.proofs.runs.RunsSequence.visible_before.Goals as goal

pub spot-requires-clause-apart : goal.spot-requires-clause-apart
spot-requires-clause-apart c = kept_apart c.args.self.now.characters.items (stretches_in c.args.self.now.row) c.args.self.now.stored c.args.self.now.keeps_walk

pub unwrap-b-requires : goal.unwrap-b-requires
unwrap-b-requires c =
    let self = c.args.self.now in
    some_of c.spot.result (All (IsOutside c.args.id) (stretches_in self.row)) c.spot.ensures.absent (is_placed self.characters.items (stretches_in self.row) c.args.id c.requires)

pub count_before-requires-clause-sums : goal.count_before-requires-clause-sums
count_before-requires-clause-sums c =
    let row = c.args.self.now.row in
    subst (λ sums. AreSums sums (items_of c.deref.result.now)) (sym c.deref-2.ensures.value) (subst (λ bs. AreSums row.sums.items (items_of bs)) (sym c.deref.ensures.value) c.args.self.now.indexed.sums)

pub count_before-requires-clause-few : goal.count_before-requires-clause-few
count_before-requires-clause-few c =
    let self = c.args.self.now in
    let ss = stretches_in self.row in
    omega (arith, ap (λ bs. visible_in (row_of (items_of bs))) c.deref.ensures.value, visible_le ss, length-row self.characters.items ss self.stored, self.counted, self.characters.small)

pub returns : goal.returns
returns c =
    let self = c.args.self.now in
    let r = self.row in
    let chars = self.characters.items in
    let xs = items_of r.blocks.items in
    let ss = stretches_in r in
    let id = c.args.id in
    let b = c.unwrap-b.result.0 in
    let j = c.unwrap-b.result.1 in
    let k = c.unwrap-b.result.2 in
    let f = c.spot.ensures in
    let at = spot_stands r id c.spot.result c.unwrap-b.result c.unwrap-b.ensures f.block f.within f.inside f.there in
    let there = spot_there r c.spot.result c.unwrap-b.result c.unwrap-b.ensures f.block in
    let within : j < length (get_or xs b []) = rw c.unwrap-b.ensures at f.within in
    let p = at_spot xs b j in
    let d = one_there ss p at.there in
    let ys = parts_in chars ss in
    let item = get_or_row xs b j d there within in
    let count = c.count_before.ensures d
    ∙ ap (λ (bs : List Block). visible_in (take (at_spot (items_of bs) b j) (row_of (items_of bs))) + unset k (get_or (get_or (items_of bs) b []) j d).hidden) c.deref.ensures.value in
    let place = place_is id chars ss p k self.stored (kept_apart chars ss self.stored self.keeps_walk) at in
    let inside = part_within chars ss p k d self.stored at.there (at.inside d) in
    let whole = before_spot ys p k id (omega (arith, length-parts chars ss, at.there)) (omega (arith, inside)) place ∙ before_row (elements_in chars ss) id self.keeps_walk.in_order in
    let front = seen_front chars ss p self.stored in
    let less = at.inside d in
    let mine = seen_in_part chars ss p k d self.stored at.there (omega (arith, less)) in
    omega (arith, count, front, mine, ap (λ (z : Stretch). unset k z.hidden) item, whole)
