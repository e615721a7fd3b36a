-- The rules for one type, by what one pass over a sequence keeps of the types before it.
use Rattle.std.specs.Prelude.{ℕ, Bool, true, false, not, ◌&&◌, ◌||◌, if◌then◌else◌}
use Rattle.bg_types.specs.declared.class.Bidi.{Bidi}
use Rattle.bg_types.specs.declared.class.Bidi.TheVariants.{L, R, Al, En, Es, Et, An, Cs, Nsm, On}
use Rattle.bidi_weak_neutral.specs.Classes.{is, is_strong, is_neutral, direction, embedding_direction}
use Rattle.bidi_weak_neutral.specs.Weak.{mark_type, is_joined}

-- W1, where `base` is the nearest earlier type that isn't NSM
abbrev pub marked : Bidi → Bidi → Bidi
marked base c = if is c Nsm then mark_type base else c

-- the nearest type that isn't NSM, after this one
abbrev pub unmarked : Bidi → Bidi → Bidi
unmarked base c = if not (is c Nsm) then c else base

-- the nearest strong type, after this one
abbrev pub strong_behind : Bidi → Bidi → Bidi
strong_behind strong c = if is_strong c then c else strong

-- W2 and W3
abbrev pub lettered : Bidi → Bidi → Bidi
lettered strong c =
    let numbered = if is c En && is strong Al then An else c in
    if is numbered Al then R else numbered

-- W4, between the types before and after
abbrev pub joined : Bidi → Bidi → Bidi → Bidi
joined before c after = if is_joined before c after then before else c

-- W5, between the nearest types on both sides that aren't ET
abbrev pub terminated : Bidi → Bidi → Bidi → Bidi
terminated before c after = if is c Et && (is before En || is after En) then En else c

-- the nearest type that isn't ET, after this one
abbrev pub unterminated : Bidi → Bidi → Bidi
unterminated beside c = if not (is c Et) then c else beside

-- W6
abbrev pub separated : Bidi → Bidi
separated c = if is c Es || is c Et || is c Cs then On else c

-- W7
abbrev pub settled : Bidi → Bidi → Bidi
settled strong c = if is c En && is strong L then L else c

-- a type at which a run of ET and the marks after them ends
abbrev pub is_past_terminators : Bidi → Bool
is_past_terminators c = not (is c Et || is c Nsm)

-- a type that W1 to W7 may change, or read beside another
unfoldable pub is_weak : Bidi → Bool
is_weak En = true
is_weak Es = true
is_weak Et = true
is_weak Cs = true
is_weak Nsm = true
is_weak _ = false

-- a type that goes on with the letters of a strong type: one of them, or a mark behind them
abbrev pub goes_on : Bidi → Bidi → Bool
goes_on letter c = is c letter || is c Nsm

-- N1 and N2, for a neutral between the nearest types on both sides that aren't neutral
abbrev pub neutral_type : ℕ → Bidi → Bidi → Bidi
neutral_type level before after =
    let side = direction before in
    if is side (direction after) && not (is_neutral side) then side else embedding_direction level
