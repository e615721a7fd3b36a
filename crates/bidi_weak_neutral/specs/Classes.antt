-- Sets of types, and the directions of types and levels.
use Rattle.std.specs.Prelude.{ℕ, Bool, true, false, ◌%◌, ◌==◌, if◌then◌else◌}
use Rattle.bg_types.specs.declared.class.Bidi.{Bidi}
use Rattle.bg_types.specs.declared.class.Bidi.TheVariants.{L, R, Al, En, Es, Et, An, Cs, Nsm, B, S, Ws, On, Lri, Rli, Fsi, Pdi}
use Rattle.bg_types.specs.contracts.class.Bidi.{the_type}
use denote.Enum.Bare.{sameb}

-- one type is the other
abbrev pub is : Bidi → Bidi → Bool
is c d = sameb the_type c d

-- the strong types
unfoldable pub is_strong : Bidi → Bool
is_strong L = true
is_strong R = true
is_strong Al = true
is_strong _ = false

-- the types of numbers, after W2
unfoldable pub is_number : Bidi → Bool
is_number En = true
is_number An = true
is_number _ = false

-- the types that N1 and N2 resolve: separators, white space, other neutrals and isolate controls
unfoldable pub is_neutral : Bidi → Bool
is_neutral B = true
is_neutral S = true
is_neutral Ws = true
is_neutral On = true
is_neutral Fsi = true
is_neutral Lri = true
is_neutral Rli = true
is_neutral Pdi = true
is_neutral _ = false

-- a type as a direction: numbers count as R
abbrev pub direction : Bidi → Bidi
direction c = if is_number c then R else c

-- the direction of a level
abbrev pub embedding_direction : ℕ → Bidi
embedding_direction level = if level % 2 == 1 then R else L

-- the classes of text that goes left to right by itself: neither R, AL nor AN, nor what X1 to X9 act on
unfoldable pub is_plain : Bidi → Bool
is_plain L = true
is_plain En = true
is_plain Es = true
is_plain Et = true
is_plain Cs = true
is_plain Nsm = true
is_plain B = true
is_plain S = true
is_plain Ws = true
is_plain On = true
is_plain _ = false
