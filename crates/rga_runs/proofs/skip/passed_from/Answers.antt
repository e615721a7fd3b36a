-- The goals of `passed_from` that are answered by hand.
use Rattle.std.proofs.Common.{◌≡◌, suc, ◌<◌, ◌+◌, ◌∙◌, [], List, length, take, drop, get_or, sym, ap, arith, length-drop}
use Rattle.std.proofs.lemmas.List.{drop-map, take_rest}
use Rattle.rga_runs.specs.declared.stretch.Stretch.{Stretch}
use Rattle.rga_runs.specs.declared.block.Block.{Block}
use Rattle.rga_runs.specs.Blocks.{row_of, at_spot, passed}
use Rattle.rga_runs.specs.BlockRows.{items_of}
use Rattle.rga_runs.proofs.BlockLists.{items_at, length-items}
use Rattle.rga_runs.proofs.Passed.{prefix_map}
use Rattle.rga_runs.proofs.Low.{all_greater, passes_here, passes_on}
use Rattle.std.specs.List.{prefix_len}
use Rattle.rga_runs.proofs.skip.passed_from.Goals as goal

pub returns-then-at-len-clause-place : goal.returns-then-at-len-clause-place
returns-then-at-len-clause-place c =
    let bs = c.args.blocks.now in
    let xs = items_of bs in
    let b = c.args.b in
    let x = c.index-blocks-b.result in
    let here = items_at bs b x c.requires.block c.index-blocks-b.is in
    let count : c.greater_in_front.result ≡ passed c.args.id (drop c.args.j (get_or xs b [])) = c.greater_in_front.ensures.count ∙ ap (passed c.args.id) (take_rest c.deref.result.now c.args.j) ∙ ap (λ (l : List Stretch). passed c.args.id (drop c.args.j l)) (c.deref.ensures.value ∙ sym here) in
    let few : passed c.args.id (drop c.args.j (get_or xs b [])) < length (drop c.args.j (get_or xs b [])) =
    omega (arith, count, length-drop c.args.j (get_or xs b []), c.if-at-len.true, c.len.ensures, ap length here, x.stretches.ok) in
    ap (λ n. at_spot xs b (c.args.j + n)) count ∙ passes_here c.args.id xs b c.args.j (omega (arith, c.requires.block, length-items bs)) c.requires.within few

pub returns-clause-place : goal.returns-clause-place
returns-clause-place c =
    let bs = c.args.blocks.now in
    let xs = items_of bs in
    let b = c.args.b in
    let x = c.index-blocks-b.result in
    let here = items_at bs b x c.requires.block c.index-blocks-b.is in
    let count : c.greater_in_front.result ≡ passed c.args.id (drop c.args.j (get_or xs b [])) = c.greater_in_front.ensures.count ∙ ap (passed c.args.id) (take_rest c.deref.result.now c.args.j) ∙ ap (λ (l : List Stretch). passed c.args.id (drop c.args.j l)) (c.deref.ensures.value ∙ sym here) in
    let all : passed c.args.id (drop c.args.j (get_or xs b [])) ≡ length (drop c.args.j (get_or xs b [])) =
    omega (arith, count, length-drop c.args.j (get_or xs b []), c.if-at-len.false, c.len.ensures, ap length here, x.stretches.ok, c.greater_in_front.ensures.within, ap length c.deref.ensures.value) in
    let one_more : b + 1 ≡ suc b = omega arith in
    let k : c.passed_blocks.result ≡ prefix_len (all_greater c.args.id) (drop (suc b) xs) =
    c.passed_blocks.ensures.count ∙ prefix_map c.args.id (drop (b + 1) bs) ∙ ap (prefix_len (all_greater c.args.id)) (sym (drop-map (λ (z : Block). z.stretches.items) (b + 1) bs)) ∙ ap (λ n. prefix_len (all_greater c.args.id) (drop n xs)) one_more in
    let at : b + 1 + c.passed_blocks.result ≡ suc b + prefix_len (all_greater c.args.id) (drop (suc b) xs) = omega (arith, k) in
    c.landing.ensures.place ∙ ap (λ n. length (row_of (take n xs)) + passed c.args.id (get_or xs n [])) at
    ∙ passes_on c.args.id xs b c.args.j (omega (arith, c.requires.block, length-items bs)) c.requires.within all
