-- The goals of `count_before` that are answered by hand.
use Rattle.std.proofs.Common.{◌≡◌, ◌<◌, ◌≤◌, ◌∙◌, [], List, length, take, get_or, sym, ap, arith}
use Rattle.std.proofs.lemmas.List.{get_or_default}
use Rattle.std.proofs.lemmas.List.Sums.{sum_by-take-le}
use Rattle.rga_runs.specs.declared.stretch.Stretch.{Stretch}
use Rattle.rga_runs.specs.Typed.{unset}
use Rattle.rga_runs.specs.Stretches.{visible_in, visible_of}
use Rattle.rga_runs.specs.Blocks.{row_of, at_spot}
use Rattle.rga_runs.specs.BlockRows.{items_of}
use Rattle.rga_runs.proofs.BlockLists.{items_at, length-items}
use Rattle.rga_runs.proofs.Bits.{unset-split}
use Rattle.rga_runs.proofs.Chunks.{get_or_row, at_less}
use Rattle.rga_runs.proofs.Sums.{sum_before, sum_with_next}
use Rattle.rga_runs.proofs.read.count_before.Goals as goal

pub overflow_add-result : goal.overflow_add-result
overflow_add-result c =
    let bs = c.args.blocks.now in
    let xs = items_of bs in
    let x = c.index-blocks-b.result in
    let here = items_at bs c.args.b x c.requires.block c.index-blocks-b.is in
    let there : c.args.b < length xs = omega (arith, length-items bs, c.requires.block) in
    let front = c.before_block.ensures in
    let mine = c.before_stretch.ensures ∙ ap (λ (l : List Stretch). visible_in (take c.args.j l)) (sym here) in
    omega (arith, front, mine, sum_before visible_of xs c.args.b c.args.j there (omega (arith, c.requires.within)), sum_by-take-le visible_of (row_of xs) (at_spot xs c.args.b c.args.j), c.requires.few)

pub overflow_add-result-2 : goal.overflow_add-result-2
overflow_add-result-2 c =
    let bs = c.args.blocks.now in
    let xs = items_of bs in
    let x = c.index-blocks-b.result in
    let here = items_at bs c.args.b x c.requires.block c.index-blocks-b.is in
    let there : c.args.b < length xs = omega (arith, length-items bs, c.requires.block) in
    let front = c.before_block.ensures in
    let mine = c.before_stretch.ensures ∙ ap (λ (l : List Stretch). visible_in (take c.args.j l)) (sym here) in
    let s = c.index.result.now in
    let item : s ≡ get_or (row_of xs) (at_spot xs c.args.b c.args.j) s = c.index.ensures ∙ ap (λ (l : List Stretch). get_or l c.args.j s) (sym here) ∙ sym (get_or_row xs c.args.b c.args.j s there c.requires.within) in
    let within : c.args.k ≤ s.count = omega (arith, c.requires.inside s, ap (λ (l : List Stretch). (get_or l c.args.j s).count) here, ap (λ (z : Stretch). z.count) c.index.ensures) in
    omega (
      arith,
      front,
      mine,
      sum_before visible_of xs c.args.b c.args.j there (omega (arith, c.requires.within)),
      sum_with_next visible_of (row_of xs) (at_spot xs c.args.b c.args.j) s (at_less xs c.args.b c.args.j there c.requires.within) item,
      c.visible_before.ensures,
      unset-split c.args.k s.count s.hidden within,
      c.requires.few,
    )

pub returns : goal.returns
returns c = λ d.
    let bs = c.args.blocks.now in
    let xs = items_of bs in
    let x = c.index-blocks-b.result in
    let here = items_at bs c.args.b x c.requires.block c.index-blocks-b.is in
    let there : c.args.b < length xs = omega (arith, length-items bs, c.requires.block) in
    let front = c.before_block.ensures in
    let mine = c.before_stretch.ensures ∙ ap (λ (l : List Stretch). visible_in (take c.args.j l)) (sym here) in
    let item : (get_or (get_or xs c.args.b []) c.args.j d).hidden ≡ c.index.result.now.hidden =
    ap (λ (l : List Stretch). (get_or l c.args.j d).hidden) here ∙ ap (λ (s : Stretch). s.hidden) (get_or_default x.stretches.items c.args.j d c.index.result.now (omega (arith, c.requires.within, ap length here)) ∙ sym c.index.ensures) in
    omega (arith, front, mine, sum_before visible_of xs c.args.b c.args.j there (omega (arith, c.requires.within)), c.visible_before.ensures, ap (unset c.args.k) item)
