-- The goal of `hides` that is answered by hand.
use Rattle.std.proofs.Common.{◌%◌, ◌/◌, ◌^◌, ◌∙◌, sym, ap}
use Rattle.std.specs.Prelude.{nat_eq}
use Rattle.rga_runs.proofs.Bits.{bits_from-is}
use Rattle.rga_runs.proofs.stretch.Stretch.hides.Goals as goal

pub returns : goal.returns
returns c = ap (λ n. nat_eq (n / 2 ^ c.args.k % 2) 1) c.bits.ensures.value ∙ ap (λ b. nat_eq (b % 2) 1) (sym (bits_from-is c.args.k c.args.self.now.hidden))
