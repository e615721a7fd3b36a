-- The pairs of LB25 (UAX #14).
use Rattle.std.specs.Prelude.{Bool, true, false}
use Rattle.bg_types.specs.declared.class.Lb.{Lb}
use Rattle.bg_types.specs.declared.class.Lb.TheVariants.{Cl, Cp, Nu, Po, Pr, Hy, Is, Sy, Op}

abbrev pub is_pair : Lb → Lb → Bool
is_pair Cl Po = true
is_pair Cp Po = true
is_pair Cl Pr = true
is_pair Cp Pr = true
is_pair Nu Po = true
is_pair Nu Pr = true
is_pair Po Op = true
is_pair Po Nu = true
is_pair Pr Op = true
is_pair Pr Nu = true
is_pair Hy Nu = true
is_pair Is Nu = true
is_pair Nu Nu = true
is_pair Sy Nu = true
is_pair _ _ = false
