-- The goal of `grow` that is answered by hand.
use Rattle.std.proofs.Common.{ap, arith}
use Rattle.rga_runs.specs.Typed.{unset}
use Rattle.rga_runs.proofs.Bits.{unset-add, unset-none}
use Rattle.rga_runs.proofs.stretch.Stretch.grow.Goals as goal

pub returns-clause-visible : goal.returns-clause-visible
returns-clause-visible c =
    let s = c.args.self.now in
    let m = c.args.more in
    omega (arith, unset-add m s.count s.hidden, ap (unset m) c.requires.bits, unset-none m)
