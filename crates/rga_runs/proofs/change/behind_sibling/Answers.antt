-- The goal of `behind_sibling` that is answered by hand.
use Rattle.std.proofs.Common.{◌≡◌, ◌+◌, ◌<◌, ◌∙◌, List, [], length, take, drop, get_or, sym, ap, arith}
use Rattle.std.proofs.lemmas.Bool.{ltb-true}
use Rattle.std.specs.List.{prefix_len}
use Rattle.std.specs.Ordering.{is_lt}
use Rattle.bg_types.specs.Identifier.{id_cmp}
use Rattle.rga_tree.specs.Spot.{joined}
use Rattle.rga_tree.proofs.Interface.{is_greater}
use Rattle.rga_runs.specs.declared.stretch.Stretch.{Stretch}
use Rattle.rga_runs.specs.declared.block.Block.{Block}
use Rattle.rga_runs.specs.Stretches.{parts_in}
use Rattle.rga_runs.specs.Blocks.{row_of, at_spot}
use Rattle.rga_runs.specs.BlockRows.{items_of}
use Rattle.rga_runs.proofs.BlockLists.{length-items, items_at}
use Rattle.rga_runs.proofs.Chunks.{at_less}
use Rattle.rga_runs.proofs.Spots.{read_row, behind_greater}
use Rattle.rga_runs.proofs.change.behind_sibling.Goals as goal

pub returns-then-is_greater_sibling-clause-place : goal.returns-then-is_greater_sibling-clause-place
returns-then-is_greater_sibling-clause-place c = λ chars stored keeps.
    let r = c.args.row.now in
    let bs = r.blocks.items in
    let xs = items_of bs in
    let ss = row_of xs in
    let b = r.recent.0 in
    let j = r.recent.1 in
    let x = c.in_ok-block.block.now in
    let s = c.in_ok-stretch.stretch.now in
    let block : x ≡ get_or bs b x = c.in_ok-block.ensures.lookup.1 ∙ ap (λ (l : List Block). get_or l b x) c.deref.ensures.value in
    let stretch : s ≡ get_or x.stretches.items j s = c.in_ok-stretch.ensures.lookup.1 ∙ ap (λ (l : List Stretch). get_or l j s) c.deref-2.ensures.value in
    let some : b < length bs = omega (arith, ltb-true _ _ (sym c.in_ok-block.ensures.lookup.0), ap length c.deref.ensures.value) in
    let here = items_at bs b x some block in
    let within : j < length (get_or xs b []) = omega (arith, ltb-true _ _ (sym c.in_ok-stretch.ensures.lookup.0), ap length c.deref-2.ensures.value, ap length here) in
    let p = at_spot xs b j in
    let read : s ≡ get_or ss p s = read_row bs b j x s s some within block stretch in
    let next : at_spot xs b (j + 1) ≡ p + 1 = omega arith in
    let ys = parts_in chars ss in
    ap (λ n. length (joined (take n ys)) + prefix_len (is_greater c.args.id) (joined (drop n ys))) next
    ∙ behind_greater c.args.parent.now c.args.id chars ss p s stored keeps (at_less xs b j (omega (arith, some, length-items bs)) within)
    (ap (λ (z : Stretch). z.parent) (sym read) ∙ c.if-is_greater_sibling.ensures.parent) (ap (λ (z : Stretch). is_lt (id_cmp c.args.id z.first)) (sym read) ∙ c.if-is_greater_sibling.ensures.greater)
