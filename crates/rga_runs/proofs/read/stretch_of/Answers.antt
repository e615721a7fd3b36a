-- The goals of `stretch_of` that are answered by hand.
use Rattle.std.proofs.Common.{◌≡◌, ◌<◌, List, length, take, get_or, ap, arith}
use Rattle.rga_runs.specs.declared.stretch.Stretch.{Stretch}
use Rattle.rga_runs.specs.Stretches.{count_in, visible_in}
use Rattle.rga_runs.proofs.Sums.{all_visible_front, all_visible_at}
use Rattle.rga_runs.proofs.read.stretch_of.Goals as goal

pub returns-then-block-clause-within : goal.returns-then-block-clause-within
returns-then-block-clause-within c = λ d.
    let x = c.args.block.now in
    let ss = x.stretches.items in
    let j = c.spot_of.result.0 in
    let same : visible_in ss ≡ count_in ss = omega (arith, x.visible_are, x.counted, c.if-block.true) in
    let there : j < length ss = omega (arith, c.spot_of.ensures.block, ap length c.deref.ensures.value) in
    omega (arith, all_visible_at ss j d there same, c.spot_of.ensures.within d, ap (λ (l : List Stretch). (get_or l j d).count) c.deref.ensures.value)

pub returns-then-block-clause-place : goal.returns-then-block-clause-place
returns-then-block-clause-place c =
    let x = c.args.block.now in
    let ss = x.stretches.items in
    let j = c.spot_of.result.0 in
    let same : visible_in ss ≡ count_in ss = omega (arith, x.visible_are, x.counted, c.if-block.true) in
    omega (arith, all_visible_front ss j same, c.spot_of.ensures.place, ap (λ (l : List Stretch). count_in (take j l)) c.deref.ensures.value)
