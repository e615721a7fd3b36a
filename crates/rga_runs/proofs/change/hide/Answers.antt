-- The goals of `hide` that are answered by hand.
use Rattle.std.proofs.Common.{◌≡◌, ◌∙◌, true, false, get_or, sym, ap, arith}
use Rattle.std.specs.Prelude.{set}
use Rattle.std.proofs.lemmas.List.Sums.{sum_by-set}
use Rattle.rga_tree.specs.Spot.{offset}
use Rattle.rga_tree.proofs.Interface.{offset_less}
use Rattle.rga_runs.specs.declared.stretch.Stretch.{Stretch}
use Rattle.rga_runs.specs.Typed.{is_odd, bits_from}
use Rattle.rga_runs.specs.Stretches.{parts_in, elements_in, are_stored, visible_in, visible_of}
use Rattle.rga_runs.specs.Blocks.{row_of, at_spot}
use Rattle.rga_runs.specs.BlockRows.{items_of}
use Rattle.rga_runs.proofs.BlockLists.{length-items}
use Rattle.rga_runs.proofs.Chunks.{one_there}
use Rattle.rga_runs.proofs.Places.{hidden_already}
use Rattle.rga_runs.proofs.Rows.{length-parts}
use Rattle.rga_runs.proofs.Spots.{spot_there, spot_stands, read_row, place_is, part_within, hidden_there, hidden_row, stored_same}
use Rattle.rga_runs.proofs.Taken.{none_taken}
use Rattle.rga_runs.proofs.change.hide.Goals as goal

pub returns-then-hides-clause-elements : goal.returns-then-hides-clause-elements
returns-then-hides-clause-elements c = λ chars stored e.
    let r = c.args.row.now in
    let xs = items_of r.blocks.items in
    let ss = row_of xs in
    let b = c.unwrap-b.result.0 in
    let j = c.unwrap-b.result.1 in
    let k = c.unwrap-b.result.2 in
    let f = c.spot.ensures in
    let at = spot_stands r c.args.id c.spot.result c.unwrap-b.result c.unwrap-b.ensures f.block f.within f.inside f.there in
    let p = at_spot xs b j in
    let d = one_there ss p at.there in
    let s = c.index-2.result.now in
    let read = read_row r.blocks.items b j c.index.result.now s d (omega (arith, spot_there r c.spot.result c.unwrap-b.result c.unwrap-b.ensures f.block, length-items r.blocks.items)) (rw c.unwrap-b.ensures at f.within) c.index.ensures c.index-2.ensures in
    let mark : is_odd (bits_from k (get_or ss p d).hidden) ≡ true = ap (λ (z : Stretch). is_odd (bits_from k z.hidden)) (sym read) ∙ sym c.hides.ensures ∙ c.if-hides.true in
    let ys = parts_in chars ss in
    let row = elements_in chars ss in
    let hidden = hidden_there chars ss p k d e stored at.there (at.inside d) ∙ mark in
    hidden_already row (offset ys p k) e (offset_less ys p k (omega (arith, length-parts chars ss, at.there)) (part_within chars ss p k d stored at.there (at.inside d))) hidden
    ∙ ap (λ n. set row n (record (get_or row n e) { hidden = true })) (place_is c.args.id chars ss p k stored c.requires.apart at)

pub returns-clause-elements : goal.returns-clause-elements
returns-clause-elements c = λ chars stored e.
    let r = c.args.row.now in
    let xs = items_of r.blocks.items in
    let ss = row_of xs in
    let b = c.unwrap-b.result.0 in
    let j = c.unwrap-b.result.1 in
    let k = c.unwrap-b.result.2 in
    let f = c.spot.ensures in
    let at = spot_stands r c.args.id c.spot.result c.unwrap-b.result c.unwrap-b.ensures f.block f.within f.inside f.there in
    let p = at_spot xs b j in
    let d = one_there ss p at.there in
    let s = c.index-2.result.now in
    let read = read_row r.blocks.items b j c.index.result.now s d (omega (arith, spot_there r c.spot.result c.unwrap-b.result c.unwrap-b.ensures f.block, length-items r.blocks.items)) (rw c.unwrap-b.ensures at f.within) c.index.ensures c.index-2.ensures in
    let mark : is_odd (bits_from k (get_or ss p d).hidden) ≡ false = ap (λ (z : Stretch). is_odd (bits_from k z.hidden)) (sym read) ∙ sym c.hides.ensures ∙ c.if-hides.false in
    let row = elements_in chars ss in
    let h = c.hide_character.ensures.row d in
    ap (elements_in chars) h.2 ∙ hidden_row chars ss p k d h.0 e stored at.there (at.inside d) mark h.1
    ∙ ap (λ n. set row n (record (get_or row n e) { hidden = true })) (place_is c.args.id chars ss p k stored c.requires.apart at)

pub returns-clause-visible : goal.returns-clause-visible
returns-clause-visible c =
    let r = c.args.row.now in
    let xs = items_of r.blocks.items in
    let ss = row_of xs in
    let b = c.unwrap-b.result.0 in
    let j = c.unwrap-b.result.1 in
    let k = c.unwrap-b.result.2 in
    let f = c.spot.ensures in
    let at = spot_stands r c.args.id c.spot.result c.unwrap-b.result c.unwrap-b.ensures f.block f.within f.inside f.there in
    let p = at_spot xs b j in
    let d = one_there ss p at.there in
    let h = c.hide_character.ensures.row d in
    omega (arith, ap visible_in h.2, sum_by-set visible_of ss p h.0 d at.there, h.1.visible)

pub returns-clause-stored : goal.returns-clause-stored
returns-clause-stored c = λ n stored.
    let r = c.args.row.now in
    let xs = items_of r.blocks.items in
    let ss = row_of xs in
    let b = c.unwrap-b.result.0 in
    let j = c.unwrap-b.result.1 in
    let k = c.unwrap-b.result.2 in
    let f = c.spot.ensures in
    let at = spot_stands r c.args.id c.spot.result c.unwrap-b.result c.unwrap-b.ensures f.block f.within f.inside f.there in
    let p = at_spot xs b j in
    let d = one_there ss p at.there in
    let h = c.hide_character.ensures.row d in
    ap (are_stored n) h.2 ∙ stored_same n ss p d h.0 stored at.there h.1.start h.1.count

pub returns-then-hides-clause-room : goal.returns-then-hides-clause-room
returns-then-hides-clause-room c = none_taken 0 c.args.row.now
