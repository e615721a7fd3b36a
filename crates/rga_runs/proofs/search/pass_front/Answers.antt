-- The goals of `pass_front` that are answered by hand.
use Rattle.std.proofs.Common.{◌≡◌, ◌+◌, ◌-◌, take, drop, ap, ◌∙◌, arith}
use Rattle.rga_runs.specs.declared.stretch.Stretch.{Stretch}
use Rattle.rga_runs.specs.Stretches.{count_in}
use Rattle.rga_runs.proofs.Sums.{sum-behind}
use Rattle.rga_runs.proofs.search.pass_front.Goals as goal

pub loop-passed-preserved : goal.loop-passed-preserved
loop-passed-preserved c =
    let ss = c.args.stretches.now in
    let p = c.loop-passed.passed in
    let n : p + 16 - p ≡ 16 = omega arith in
    let read : c.count_all-count.result ≡ count_in (take 16 (drop p ss)) = c.count_all-count.ensures ∙ ap (λ k. count_in (take k (drop p ss))) n in
    record {
      there = omega (arith, c.loop-passed.invariant.there, c.loop-passed-test.true);
      before = omega (arith, sum-behind (λ (s : Stretch). s.count) ss p 16, read, c.loop-passed.invariant.before, c.if-left-count.false);
    }
