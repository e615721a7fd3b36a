-- What bracket pairs do to the types of a sequence: UAX #9, N0.
use Rattle.std.specs.Prelude.{ℕ, suc, ◌+◌, ◌%◌, ◌==◌, Bool, true, false, List, [], ◌∷◌, ◌++◌, fold, take, drop, slice_range, Option, Some, None, if◌then◌else◌}
use Rattle.std.specs.List.{list_any}
use Rattle.std.specs.Option.{option_or}
use Rattle.bg_types.specs.declared.class.Bidi.{Bidi}
use Rattle.bg_types.specs.declared.class.Bidi.TheVariants.{L, R, En, An}
unfoldable pub use Rattle.bg_types.specs.Classes.{is_nonspacing}
use Rattle.unicode_tables.specs.Tables.{TableValues}
use Rattle.bracket_pairs.specs.declared.direction.Direction.{Direction}
use Rattle.bracket_pairs.specs.declared.direction.Direction.TheVariants.{LeftToRight, RightToLeft}
use Rattle.bracket_pairs.specs.declared.role.Role.{Role}
use Rattle.bracket_pairs.specs.Pairs.{Pair, roles, pairs_in_order}

-- the direction of a level
abbrev pub direction_of_level : ℕ → Direction
direction_of_level level = if level % 2 == 1 then RightToLeft else LeftToRight

abbrev pub opposite : Direction → Direction
opposite LeftToRight = RightToLeft
opposite RightToLeft = LeftToRight

-- the type of a bracket that takes a direction
abbrev pub type_of : Direction → Bidi
type_of LeftToRight = L
type_of RightToLeft = R

-- the direction of a strong type. EN and AN count as R
unfoldable pub direction_of : Bidi → Option Direction
direction_of L = Some LeftToRight
direction_of R = Some RightToLeft
direction_of En = Some RightToLeft
direction_of An = Some RightToLeft
direction_of _ = None

abbrev pub is_direction : Direction → Option Direction → Bool
is_direction d None = false
is_direction LeftToRight (Some LeftToRight) = true
is_direction LeftToRight (Some RightToLeft) = false
is_direction RightToLeft (Some LeftToRight) = false
is_direction RightToLeft (Some RightToLeft) = true

-- whether a strong type of a direction is among these
abbrev pub has_strong : Direction → List Bidi → Bool
has_strong d types = list_any (λ t. is_direction d (direction_of t)) types

-- the direction of the last strong type, or the given one where there is none
abbrev pub last_strong : Option Direction → List Bidi → Option Direction
last_strong before [] = before
last_strong before (t ∷ types) = last_strong (option_or (direction_of t) before) types

-- N0, b to d: the direction that a pair takes, by the embedding direction, the direction before the pair, and what is inside
unfoldable pub pair_direction : Direction → Option Direction → List Bidi → Option Direction
pair_direction embedding before inside =
    if has_strong embedding inside then Some embedding
    else if has_strong (opposite embedding) inside
    then Some (if is_direction (opposite embedding) before then opposite embedding else embedding)
    else None

-- the types with t for those at the front that were NSM before W1
abbrev pub marks_set : Bidi → (before_w1 types : List Bidi) → List Bidi
marks_set t before_w1 [] = []
marks_set t [] (u ∷ types) = u ∷ types
marks_set t (b ∷ before_w1) (u ∷ types) =
    let rest = marks_set t before_w1 types in if is_nonspacing b then t ∷ rest else u ∷ types

-- the types with t for a bracket, and for the characters right after it that were NSM before W1
unfoldable pub bracket_set : Bidi → (before_w1 types : List Bidi) → ℕ → List Bidi
bracket_set t before_w1 types place =
    take place types ++ t ∷ marks_set t (drop (suc place) before_w1) (drop (suc place) types)

-- the types with both brackets of a pair of a direction, or as they were
abbrev pub pair_set : Option Direction → (before_w1 types : List Bidi) → Pair → List Bidi
pair_set None before_w1 types pair = types
pair_set (Some d) before_w1 types pair =
    bracket_set (type_of d) before_w1 (bracket_set (type_of d) before_w1 types pair.opening) pair.closing

-- what one pair does to all types
abbrev pub pair_resolved : Direction → Option Direction → (before_w1 types : List Bidi) → Pair → List Bidi
pair_resolved embedding sos before_w1 types pair =
    pair_set
    (pair_direction embedding (last_strong sos (take pair.opening types)) (slice_range types (pair.opening + 1) pair.closing))
    before_w1 types pair

-- the types after each pair in turn, in the order of the opening brackets
abbrev pub pairs_resolved : (level : ℕ) → (sos : Bidi) → List Role → (before_w1 types : List Bidi) → List Bidi
pairs_resolved level sos rs before_w1 types =
    fold (pair_resolved (direction_of_level level) (direction_of sos) before_w1) types (pairs_in_order rs)

-- N0: the types of a sequence whose types after W7 are these
unfoldable pub n0 : TableValues → (level : ℕ) → (sos : Bidi) → (chars : List ℕ) → (before_w1 types : List Bidi) → List Bidi
n0 tables level sos chars before_w1 types = pairs_resolved level sos (roles tables chars types) before_w1 types
