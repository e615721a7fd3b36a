-- A paragraph without controls: each place is kept at the paragraph's level (UAX #9, X6), and all of them are one sequence (X10).
use Rattle.std.specs.Prelude.{ℕ, zero, suc, ◌≡◌, ◌||◌, Bool, false, List, [], ◌∷◌, Option, Some}
use Rattle.bg_types.specs.declared.class.Bidi.{Bidi}
use Rattle.paragraphs.specs.Classes.{is_removed, is_isolate_control, is_separator}
use Rattle.bidi_explicit.specs.declared.kept.Kept.{Kept}
use Rattle.bidi_explicit.specs.Sequences.{RunSequence, below, direction_between}

-- a class that X9 removes, or an isolate control
abbrev pub is_control : Bidi → Bool
is_control c = is_removed c || is_isolate_control c

abbrev pub IsNoControl : Bidi → Type 0
IsNoControl c = is_control c ≡ false

-- a class that X1 to X9 do not simply give the direction of the stack's last entry
abbrev pub is_apart : Bidi → Bool
is_apart c = is_control c || is_separator c

-- a place of this class, kept at a level
abbrev pub kept_at_level : ℕ → Bidi → Option Kept
kept_at_level level c = Some (record { level = level; class = c })

-- the one sequence of this many places at a level
abbrev pub one_sequence : (level count : ℕ) → List RunSequence
one_sequence level zero = []
one_sequence level (suc n) =
    (record { places = below (suc n); level = level; sos = direction_between level level; eos = direction_between level level }) ∷ []
