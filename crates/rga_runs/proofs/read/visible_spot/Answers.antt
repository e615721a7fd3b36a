-- The goals of `visible_spot` that are answered by hand.
use Rattle.std.proofs.Common.{◌≡◌, ◌<◌, ◌∙◌, [], List, length, take, get_or, sym, ap, arith}
use Rattle.std.proofs.lemmas.List.{get_or_default}
use Rattle.rga_runs.specs.declared.stretch.Stretch.{Stretch}
use Rattle.rga_runs.specs.Typed.{unset}
use Rattle.rga_runs.specs.Stretches.{visible_in, visible_of}
use Rattle.rga_runs.specs.BlockRows.{items_of}
use Rattle.rga_runs.proofs.BlockLists.{items_at, length-items}
use Rattle.rga_runs.proofs.Sums.{sum_before, sum_next}
use Rattle.rga_runs.proofs.read.visible_spot.Goals as goal

pub loop-b-preserved : goal.loop-b-preserved
loop-b-preserved c =
    let x = c.index-blocks-b.result in
    let is = x.visible_are in
    omega (arith, c.loop-b.invariant, sum_next visible_of c.args.blocks.now c.loop-b.b x c.loop-b-test.true c.index-blocks-b.is, is, c.if-left-visible.false)

pub returns-then-left-visible-clause-place : goal.returns-then-left-visible-clause-place
returns-then-left-visible-clause-place c = λ d.
    let bs = c.args.blocks.now in
    let xs = items_of bs in
    let b = c.loop-b.b in
    let j = c.stretch_of-j.result.0 in
    let x = c.index-blocks-b.result in
    let here = items_at bs b x c.loop-b-test.true c.index-blocks-b.is in
    let there : b < length xs = omega (arith, length-items bs, c.loop-b-test.true) in
    let less : j < length (get_or xs b []) = omega (arith, ap length here, c.stretch_of-j.ensures.block) in
    let item : (get_or (get_or xs b []) j d).hidden ≡ c.index.result.now.hidden =
    ap (λ (l : List Stretch). (get_or l j d).hidden) here ∙ ap (λ (s : Stretch). s.hidden) (get_or_default x.stretches.items j d c.index.result.now (omega (arith, less, ap length here)) ∙ sym c.index.ensures) in
    omega (arith, ap (unset c.visible_at.result) item, sum_before visible_of xs b j there (omega (arith, less)), c.loop-b.invariant, c.stretch_of-j.ensures.place, ap (λ (l : List Stretch). visible_in (take j l)) here, c.visible_at.ensures.before)
