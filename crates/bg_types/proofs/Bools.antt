-- Lemmas on tests that compute.
use Rattle.std.proofs.Common.{◌≡◌, Bool, true, false, refl}
use Rattle.std.specs.Prelude.{◌||◌}

pub two_cases : {P : Type 0} (b : Bool) → (b ≡ true → P) → (b ≡ false → P) → P
two_cases true f g = f refl
two_cases false f g = g refl

pub one_of : (a b : Bool) (P : Type 0) → (a || b) ≡ true → (a ≡ true → P) → (b ≡ true → P) → P
one_of true b P e f g = f refl
one_of false b P e f g = g e

pub or_swap : (a b c : Bool) → (a || (b || c)) ≡ (b || (a || c))
or_swap true true c = refl
or_swap true false c = refl
or_swap false b c = refl
