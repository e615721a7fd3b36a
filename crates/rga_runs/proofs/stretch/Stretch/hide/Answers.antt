-- The goals of `hide` that are answered by hand.
use Rattle.std.proofs.Common.{◌≡◌, ◌+◌, ◌^◌, ap, arith}
use Rattle.std.proofs.lemmas.Nat.{one_shl}
use Rattle.rga_runs.specs.Typed.{unset}
use Rattle.rga_runs.proofs.Bits.{unset-set, set_below}
use Rattle.rga_runs.proofs.stretch.Stretch.hide.Goals as goal

pub overflow_add-bits : goal.overflow_add-bits
overflow_add-bits c =
    let s = c.args.self.now in
    let few = s.few in
    let shift = one_shl c.args.k 32 (omega (arith, c.requires.within, few)) in
    let small = set_below 24 c.args.k s.hidden (omega (arith, c.requires.within, few)) c.bits.ensures.few c.requires.visible in
    omega (arith, shift, small, c.bits.ensures.value)

pub of-self-requires : goal.of-self-requires
of-self-requires c =
    let s = c.args.self.now in
    let few = s.few in
    let shift = one_shl c.args.k 32 (omega (arith, c.requires.within, few)) in
    let small = set_below 24 c.args.k s.hidden (omega (arith, c.requires.within, few)) c.bits.ensures.few c.requires.visible in
    omega (arith, shift, small, c.bits.ensures.value)

pub returns-clause-hidden : goal.returns-clause-hidden
returns-clause-hidden c =
    let s = c.args.self.now in
    let few = s.few in
    let shift = one_shl c.args.k 32 (omega (arith, c.requires.within, few)) in
    omega (arith, shift, c.of-self.ensures, c.bits.ensures.value)

pub returns-clause-visible : goal.returns-clause-visible
returns-clause-visible c =
    let s = c.args.self.now in
    let few = s.few in
    let shift = one_shl c.args.k 32 (omega (arith, c.requires.within, few)) in
    let marked : c.of-self.result ≡ s.hidden + 2 ^ c.args.k = omega (arith, shift, c.of-self.ensures, c.bits.ensures.value) in
    omega (arith, unset-set s.count c.args.k s.hidden c.requires.within c.requires.visible, ap (unset s.count) marked)
