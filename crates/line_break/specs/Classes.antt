-- Line breaking classes as the rules see them (UAX #14, LB1).
use Rattle.std.specs.Prelude.{Bool, true, false, List, if◌then◌else◌}
use Rattle.std.specs.List.{list_any}
use Rattle.bg_types.specs.declared.class.Bidi.{Bidi}
use Rattle.bg_types.specs.declared.class.Lb.{Lb}
use Rattle.bg_types.specs.declared.class.Lb.TheVariants.{Ai, Al, Cj, Cm, Cp, Ns, Op, Sa, Sg, Xx}
use Rattle.bg_types.specs.declared.class.Ea.{Ea}
use Rattle.bg_types.specs.declared.class.Ea.TheVariants.{F, H, W}
use Rattle.bg_types.specs.contracts.class.Lb.{the_type}
use Rattle.bg_types.specs.Classes.{is_nonspacing}
use denote.Enum.Bare.{sameb}

-- the class is one of these
unfoldable pub one_of : List Lb → Lb → Bool
one_of classes class = list_any (λ c. sameb the_type c class) classes

-- LB1: AI, SG and XX become AL, CJ becomes NS, and SA becomes CM where the Bidi class is NSM, otherwise AL (AL for SA is own)
unfoldable pub resolved : Bidi → Lb → Lb
resolved bidi Ai = Al
resolved bidi Sg = Al
resolved bidi Xx = Al
resolved bidi Cj = Ns
resolved bidi Sa = if is_nonspacing bidi then Cm else Al
resolved bidi class = class

-- LB1 asks for the Bidi class of SA, and LB30 for the width of CP and OP
unfoldable pub asks_more : Lb → Bool
asks_more Cp = true
asks_more Op = true
asks_more Sa = true
asks_more _ = false

-- East Asian F, W or H, the widths that LB30 leaves out
unfoldable pub is_east_asian : Ea → Bool
is_east_asian F = true
is_east_asian W = true
is_east_asian H = true
is_east_asian _ = false
