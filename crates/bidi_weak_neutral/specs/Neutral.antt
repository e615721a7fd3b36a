-- NeutralsAndLevels: N1, N2, I1 and I2 of UAX #9.
use Rattle.std.specs.Prelude.{ℕ, not, ◌+◌, ◌%◌, ◌==◌, ◌&&◌, ◌||◌, List, map, if◌then◌else◌}
use Rattle.bg_types.specs.declared.class.Bidi.{Bidi}
use Rattle.bg_types.specs.declared.class.Bidi.TheVariants.{L, R}
use Rattle.bidi_weak_neutral.specs.Classes.{is, is_number, is_neutral, direction, embedding_direction}
use Rattle.bidi_weak_neutral.specs.Context.{in_context, nearest}

-- the direction of the nearest type that isn't neutral, or of the sequence's end
abbrev pub side : Bidi → List Bidi → Bidi
side end types = direction (nearest (λ x. not (is_neutral x)) end types)

-- N1: a neutral between two sides of one direction takes that direction
abbrev pub n1 : Bidi → Bidi → List Bidi → List Bidi
n1 sos eos = in_context (λ before c after.
    if is_neutral c && is (side sos before) (side eos after) then side sos before else c)

-- N2: the neutrals that are left take the embedding direction
abbrev pub n2 : ℕ → List Bidi → List Bidi
n2 level = map (λ c. if is_neutral c then embedding_direction level else c)

-- I1: on an even level R adds 1, and AN and EN add 2
abbrev pub i1 : ℕ → Bidi → ℕ
i1 level c = if is c R then level + 1 else (if is_number c then level + 2 else level)

-- I2: on an odd level L, EN and AN add 1
abbrev pub i2 : ℕ → Bidi → ℕ
i2 level c = if is c L || is_number c then level + 1 else level

-- the level of a place by the level of its sequence and its type after N2
abbrev pub implicit_level : ℕ → Bidi → ℕ
implicit_level level c = if level % 2 == 1 then i2 level c else i1 level c
