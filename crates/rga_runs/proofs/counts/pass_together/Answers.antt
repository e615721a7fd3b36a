-- The goals of `pass_together` that are answered by hand.
use Rattle.std.proofs.Common.{◌≡◌, ℕ, ◌+◌, ◌-◌, take, drop, sum, ap, ◌∙◌, arith}
use Rattle.std.proofs.lemmas.List.Sums.{sum_by-take-le}
use Rattle.rga_runs.proofs.Sums.{sum-behind}
use Rattle.rga_runs.proofs.counts.pass_together.Goals as goal

pub total-visible-requires : goal.total-visible-requires
total-visible-requires c =
    let ss = c.args.sums.now in
    let p = c.loop-passed.passed in
    let n : p + 16 - p ≡ 16 = omega arith in
    let read = ap (λ k. sum (take k (drop p ss))) n in
    omega (arith, read, sum-behind (λ (n : ℕ). n) ss p 16, sum_by-take-le (λ (n : ℕ). n) ss (p + 16), c.requires)

pub loop-passed-preserved : goal.loop-passed-preserved
loop-passed-preserved c =
    let ss = c.args.sums.now in
    let p = c.loop-passed.passed in
    let n : p + 16 - p ≡ 16 = omega arith in
    let read : c.total-visible.result ≡ sum (take 16 (drop p ss)) = c.total-visible.ensures ∙ ap (λ k. sum (take k (drop p ss))) n in
    record {
      there = omega (arith, c.loop-passed.invariant.there, c.loop-passed-test.true);
      before = omega (arith, sum-behind (λ (n : ℕ). n) ss p 16, read, c.loop-passed.invariant.before, c.if-left-visible.false);
    }
