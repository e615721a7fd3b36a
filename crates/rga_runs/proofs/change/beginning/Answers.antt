-- The goals of `beginning` that are answered by hand.
use Rattle.std.proofs.Common.{◌≡◌, ◌+◌, ◌<◌, ◌≤◌, ◌∙◌, length, take, drop, get_or, true, sym, ap, subst, arith}
use Rattle.std.specs.Prelude.{All}
use Rattle.std.specs.Ordering.{is_lt}
use Rattle.std.specs.List.{prefix_len}
use Rattle.bg_types.specs.Identifier.{id_cmp}
use Rattle.rga_tree.specs.Row.{place_of}
use Rattle.rga_tree.specs.Spot.{joined, offset}
use Rattle.rga_runs.specs.declared.stretch.Stretch.{Stretch}
use Rattle.rga_runs.specs.Typed.{later}
use Rattle.rga_runs.specs.Stretches.{parts_in, elements_in, are_stored, IsOutside, IsPlaced, AreApart}
use Rattle.rga_runs.specs.Blocks.{row_of, at_spot}
use Rattle.rga_runs.specs.BlockRows.{items_of}
use Rattle.rga_runs.specs.Indexed.{stretches_in}
use Rattle.rga_tree.proofs.Interface.{is_greater}
use Rattle.rga_runs.proofs.BlockLists.{length-items}
use Rattle.rga_runs.proofs.Chunks.{one_there}
use Rattle.rga_runs.proofs.Parted.{parted_elements, parted_place, parted_stored, parted_outside, parted_apart}
use Rattle.rga_runs.proofs.Places.{some_of, place_cut, place_passed}
use Rattle.rga_runs.proofs.Rows.{length-parts, rest_passes}
use Rattle.rga_runs.proofs.Spots.{spot_there, spot_stands, read_row, place_is, part_within}
use Rattle.rga_runs.proofs.Taken.{none_taken}
use Rattle.rga_runs.proofs.change.beginning.Goals as goal

pub returns-in-Some-clause-room : goal.returns-in-Some-clause-room
returns-in-Some-clause-room c = none_taken 1 c.args.row.now

pub returns-in-Root-clause-place : goal.returns-in-Root-clause-place
returns-in-Root-clause-place c = λ chars stored keeps. ap (λ above. place_of above c.args.id (elements_in chars (stretches_in c.args.row.now))) (sym c.in-Root.is)

pub returns-in-Root-clause-room : goal.returns-in-Root-clause-room
returns-in-Root-clause-room c = none_taken 1 c.args.row.now

pub unwrap-b-requires : goal.unwrap-b-requires
unwrap-b-requires c =
    let ss = stretches_in c.args.row.now in
    some_of c.spot.result (All (IsOutside c.in-After.above) ss) c.spot.ensures.absent (subst (λ q. IsPlaced q ss) c.in-After.is c.requires.parent)

pub returns-then-stops-clause-place : goal.returns-then-stops-clause-place
returns-then-stops-clause-place c = λ chars stored keeps.
    let r = c.args.row.now in
    let xs = items_of r.blocks.items in
    let ss = row_of xs in
    let b = c.unwrap-b.result.0 in
    let j = c.unwrap-b.result.1 in
    let k = c.unwrap-b.result.2 in
    let f = c.spot.ensures in
    let at = spot_stands r c.in-After.above c.spot.result c.unwrap-b.result c.unwrap-b.ensures f.block f.within f.inside f.there in
    let p = at_spot xs b j in
    let d = one_there ss p at.there in
    let e = c.part.ensures.row d in
    let less = at.inside d in
    let within : k + 1 ≤ (get_or ss p d).count = omega (arith, less) in
    let new = stretches_in c.part.new.row in
    let start = place_is c.in-After.above chars ss p k stored c.requires.apart at in
    let place = ap (λ n. length (joined (take n (parts_in chars new)))) c.part.ensures.place ∙ ap (λ l. length (joined (take (p + 1) (parts_in chars l)))) e.3 ∙ parted_place chars ss p (k + 1) d e.0 e.1 stored at.there within e.2 in
    place_cut c.in-After.above c.args.id (parts_in chars ss) (parts_in chars new) (at_spot (items_of c.part.new.row.blocks.items) c.part.result.0 c.part.result.1) (offset (parts_in chars ss) p (k + 1))
    (ap (elements_in chars) e.3 ∙ parted_elements chars ss p (k + 1) d e.0 e.1 at.there e.2) place (omega (arith, start))
    ∙ ap (λ q. place_of q c.args.id (elements_in chars ss)) (sym c.in-After.is)

pub returns-then-stops-clause-elements : goal.returns-then-stops-clause-elements
returns-then-stops-clause-elements c = λ chars.
    let r = c.args.row.now in
    let xs = items_of r.blocks.items in
    let ss = row_of xs in
    let b = c.unwrap-b.result.0 in
    let j = c.unwrap-b.result.1 in
    let k = c.unwrap-b.result.2 in
    let f = c.spot.ensures in
    let at = spot_stands r c.in-After.above c.spot.result c.unwrap-b.result c.unwrap-b.ensures f.block f.within f.inside f.there in
    let p = at_spot xs b j in
    let d = one_there ss p at.there in
    let e = c.part.ensures.row d in
    ap (elements_in chars) e.3 ∙ parted_elements chars ss p (k + 1) d e.0 e.1 at.there e.2

pub returns-then-stops-clause-stored : goal.returns-then-stops-clause-stored
returns-then-stops-clause-stored c = λ n stored.
    let r = c.args.row.now in
    let xs = items_of r.blocks.items in
    let ss = row_of xs in
    let b = c.unwrap-b.result.0 in
    let j = c.unwrap-b.result.1 in
    let k = c.unwrap-b.result.2 in
    let f = c.spot.ensures in
    let at = spot_stands r c.in-After.above c.spot.result c.unwrap-b.result c.unwrap-b.ensures f.block f.within f.inside f.there in
    let p = at_spot xs b j in
    let d = one_there ss p at.there in
    let e = c.part.ensures.row d in
    let less = at.inside d in
    let within : k + 1 ≤ (get_or ss p d).count = omega (arith, less) in
    ap (are_stored n) e.3 ∙ parted_stored n ss p (k + 1) d e.0 e.1 stored at.there within e.2

pub returns-then-stops-clause-outside : goal.returns-then-stops-clause-outside
returns-then-stops-clause-outside c = λ out.
    let r = c.args.row.now in
    let xs = items_of r.blocks.items in
    let ss = row_of xs in
    let b = c.unwrap-b.result.0 in
    let j = c.unwrap-b.result.1 in
    let k = c.unwrap-b.result.2 in
    let f = c.spot.ensures in
    let at = spot_stands r c.in-After.above c.spot.result c.unwrap-b.result c.unwrap-b.ensures f.block f.within f.inside f.there in
    let p = at_spot xs b j in
    let d = one_there ss p at.there in
    let e = c.part.ensures.row d in
    let less = at.inside d in
    let within : k + 1 ≤ (get_or ss p d).count = omega (arith, less) in
    subst (All (IsOutside c.args.id)) (sym e.3) (parted_outside c.args.id ss p (k + 1) d e.0 e.1 at.there within e.2 out)

pub returns-then-stops-clause-apart : goal.returns-then-stops-clause-apart
returns-then-stops-clause-apart c =
    let r = c.args.row.now in
    let xs = items_of r.blocks.items in
    let ss = row_of xs in
    let b = c.unwrap-b.result.0 in
    let j = c.unwrap-b.result.1 in
    let k = c.unwrap-b.result.2 in
    let f = c.spot.ensures in
    let at = spot_stands r c.in-After.above c.spot.result c.unwrap-b.result c.unwrap-b.ensures f.block f.within f.inside f.there in
    let p = at_spot xs b j in
    let d = one_there ss p at.there in
    let e = c.part.ensures.row d in
    subst AreApart (sym e.3) (parted_apart ss p (k + 1) d e.0 e.1 at.there e.2 c.requires.apart)

pub returns-else-stops-clause-place : goal.returns-else-stops-clause-place
returns-else-stops-clause-place c = λ chars stored keeps.
    let r = c.args.row.now in
    let xs = items_of r.blocks.items in
    let ss = row_of xs in
    let b = c.unwrap-b.result.0 in
    let j = c.unwrap-b.result.1 in
    let k = c.unwrap-b.result.2 in
    let f = c.spot.ensures in
    let at = spot_stands r c.in-After.above c.spot.result c.unwrap-b.result c.unwrap-b.ensures f.block f.within f.inside f.there in
    let p = at_spot xs b j in
    let d = one_there ss p at.there in
    let s = c.index-in-After.result.now in
    let read = read_row r.blocks.items b j c.index.result.now s d (omega (arith, spot_there r c.spot.result c.unwrap-b.result c.unwrap-b.ensures f.block, length-items r.blocks.items)) (rw c.unwrap-b.ensures at f.within) c.index.ensures c.index-in-After.ensures in
    let greater : k + 1 < (get_or ss p d).count → is_lt (id_cmp c.args.id (later (get_or ss p d).first (k + 1))) ≡ true =
    subst (λ (z : Stretch). k + 1 < z.count → is_lt (id_cmp c.args.id (later z.first (k + 1))) ≡ true) read c.if-stops.ensures.no in
    let ys = parts_in chars ss in
    let next : at_spot xs b (j + 1) ≡ p + 1 = omega arith in
    ap (λ n. length (joined (take n ys)) + prefix_len (is_greater c.args.id) (joined (drop n ys))) next
    ∙ place_passed c.in-After.above c.args.id ys p k (omega (arith, length-parts chars ss, at.there)) (part_within chars ss p k d stored at.there (at.inside d)) (place_is c.in-After.above chars ss p k stored c.requires.apart at)
    (rest_passes c.args.id chars ss p (k + 1) d stored at.there greater)
    ∙ ap (λ q. place_of q c.args.id (elements_in chars ss)) (sym c.in-After.is)

pub returns-else-stops-clause-room : goal.returns-else-stops-clause-room
returns-else-stops-clause-room c = none_taken 1 c.args.row.now
