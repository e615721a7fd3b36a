-- The goal of `marks_behind` that is answered by hand.
use Rattle.std.proofs.Common.{◌≡◌, ◌/◌, ◌^◌, ◌∙◌, Bool, true, false, not, ℕ, refl, sym, ap, subst}
use Rattle.std.specs.Prelude.{nat_eq}
use Rattle.std.specs.Bool.{OnFalse}
use Rattle.rga_runs.specs.Typed.{bits_from}
use Rattle.rga_runs.proofs.Keyed.{site_eq}
use Rattle.rga_runs.proofs.Bits.{bits_from-is}
use Rattle.rga_runs.proofs.stretch.Stretch.marks_behind.Goals as goal

none : (n : ℕ) → OnFalse (not (nat_eq n 0)) (n ≡ 0)
none n = by_test (nat_eq n 0) refl where
  by_test : (b : Bool) → nat_eq n 0 ≡ b → OnFalse (not b) (n ≡ 0)
  by_test true is = site_eq n 0 is
  by_test false is = tt

pub returns : goal.returns
returns c =
    let s = c.args.self.now in
    subst (λ b. OnFalse (not (nat_eq b 0)) (bits_from s.count s.hidden ≡ 0)) (bits_from-is s.count s.hidden ∙ sym (ap (λ n. n / 2 ^ s.count) c.bits.ensures.value)) (none (bits_from s.count s.hidden))
