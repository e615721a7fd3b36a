-- The goals of `visible_at` that are answered by hand.
use Rattle.std.proofs.Common.{◌≡◌, suc, ◌+◌, ◌∙◌, ap, arith}
use Rattle.rga_runs.specs.Typed.{unset, is_odd, bits_from}
use Rattle.rga_runs.proofs.Bits.{weigh, unset-more, unset-none, bits_from-none, weighs}
use Rattle.rga_runs.proofs.stretch.Stretch.visible_at.Goals as goal

pub loop-k-preserved : goal.loop-k-preserved
loop-k-preserved c =
    let bits = c.args.self.now.hidden in
    let k = c.loop-k.k in
    let one_more : k + 1 ≡ suc k = omega arith in
    omega (arith, c.loop-k.invariant, c.weight-here.ensures ∙ ap weigh c.hides.ensures, unset-more k bits, ap (λ n. unset n bits) one_more, c.if-left-here.false)

pub returns-then-left-here-clause-visible : goal.returns-then-left-here-clause-visible
returns-then-left-here-clause-visible c = weighs (is_odd (bits_from c.loop-k.k c.args.self.now.hidden)) (omega (arith, c.if-left-here.true, c.weight-here.ensures ∙ ap weigh c.hides.ensures))

pub returns-then-bits-eq0 : goal.returns-then-bits-eq0
returns-then-bits-eq0 c =
    let s = c.args.self.now in
    let n = c.args.n in
    let none : s.hidden ≡ 0 = omega (arith, c.bits.ensures.value, c.if-bits-eq0.true) in
    record {
      within = omega (arith, c.requires, ap (unset s.count) none, unset-none s.count);
      visible = ap (λ m. is_odd (bits_from n m)) none ∙ ap is_odd (bits_from-none n);
      before = ap (unset n) none ∙ unset-none n;
    }
