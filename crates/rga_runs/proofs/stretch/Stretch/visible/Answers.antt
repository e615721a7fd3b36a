-- The goal of `visible` that is answered by hand.
use Rattle.std.proofs.Common.{◌≡◌, ◌∙◌, sym, ap, arith}
use Rattle.rga_runs.specs.Typed.{unset}
use Rattle.rga_runs.proofs.Bits.{unset-none}
use Rattle.rga_runs.proofs.stretch.Stretch.visible.Goals as goal

pub returns-then-bits-eq0 : goal.returns-then-bits-eq0
returns-then-bits-eq0 c =
    let s = c.args.self.now in
    let none : s.hidden ≡ 0 = omega (arith, c.bits.ensures.value, c.if-bits-eq0.true) in
    c.len.ensures ∙ sym (ap (unset s.count) none ∙ unset-none s.count)
