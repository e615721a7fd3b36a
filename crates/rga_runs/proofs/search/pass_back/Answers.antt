-- The goals of `pass_back` that are answered by hand.
use Rattle.std.proofs.Common.{◌≡◌, ◌+◌, ◌-◌, take, drop, sym, ap, ◌∙◌, arith}
use Rattle.std.proofs.lemmas.List.{length-take-le}
use Rattle.rga_runs.specs.declared.stretch.Stretch.{Stretch}
use Rattle.rga_runs.specs.Stretches.{count_in}
use Rattle.rga_runs.proofs.Sums.{sum-behind, few_counted}
use Rattle.rga_runs.proofs.search.pass_back.Goals as goal

pub loop-end-preserved : goal.loop-end-preserved
loop-end-preserved c =
    let ss = c.args.stretches.now in
    let e = c.loop-end.end in
    let p = e - 16 in
    let n : e - p ≡ 16 = omega (arith, c.loop-end-test.true) in
    let whole : p + 16 ≡ e = omega (arith, c.loop-end-test.true) in
    let read : c.count_all-count.result ≡ count_in (take 16 (drop p ss)) = c.count_all-count.ensures ∙ ap (λ k. count_in (take k (drop p ss))) n in
    let front : count_in (take e ss) ≡ count_in (take p ss) + count_in (take 16 (drop p ss)) = ap (λ k. count_in (take k ss)) (sym whole) ∙ sum-behind (λ (s : Stretch). s.count) ss p 16 in
    record {
      there = omega (arith, c.loop-end.invariant.there);
      before = omega (arith, front, read, c.loop-end.invariant.before, c.if-behind-count.false);
    }

pub returns-then-behind-count-clause-before : goal.returns-then-behind-count-clause-before
returns-then-behind-count-clause-before c =
    let ss = c.args.stretches.now in
    let e = c.loop-end.end in
    let p = e - 16 in
    let n : e - p ≡ 16 = omega (arith, c.loop-end-test.true) in
    let whole : p + 16 ≡ e = omega (arith, c.loop-end-test.true) in
    let read : c.count_all-count.result ≡ count_in (take 16 (drop p ss)) = c.count_all-count.ensures ∙ ap (λ k. count_in (take k (drop p ss))) n in
    let front : count_in (take e ss) ≡ count_in (take p ss) + count_in (take 16 (drop p ss)) = ap (λ k. count_in (take k ss)) (sym whole) ∙ sum-behind (λ (s : Stretch). s.count) ss p 16 in
    omega (arith, front, read, c.loop-end.invariant.before, c.if-behind-count.true)

pub count_all-requires : goal.count_all-requires
count_all-requires c =
    let ss = c.args.stretches.now in
    let e = c.loop-end.end in
    omega (arith, few_counted (take e ss), length-take-le e ss c.loop-end.invariant.there, c.loop-end-test.false)
