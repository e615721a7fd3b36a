-- The goals of `visible_before` that are answered by hand.
use Rattle.std.proofs.Common.{◌≡◌, suc, ◌+◌, ◌∙◌, ap, arith}
use Rattle.rga_runs.specs.Typed.{unset, is_odd, bits_from}
use Rattle.rga_runs.proofs.Bits.{weigh, unset_le, unset-more, weigh_le}
use Rattle.rga_runs.proofs.stretch.Stretch.visible_before.Goals as goal

pub loop-i-preserved : goal.loop-i-preserved
loop-i-preserved c =
    let bits = c.args.self.now.hidden in
    let k = c.loop-i.i in
    let one_more : k + 1 ≡ suc k = omega arith in
    omega (arith, c.loop-i.invariant, c.weight-visible.ensures ∙ ap weigh c.hides.ensures, unset-more k bits, ap (λ n. unset n bits) one_more)

pub overflow_add-visible : goal.overflow_add-visible
overflow_add-visible c =
    let few = c.args.self.now.few in
    omega (arith, c.loop-i.invariant, unset_le c.loop-i.i c.args.self.now.hidden, c.loop-i-test.true, c.requires, few, c.weight-visible.ensures ∙ ap weigh c.hides.ensures, weigh_le (is_odd (bits_from c.loop-i.i c.args.self.now.hidden)))
