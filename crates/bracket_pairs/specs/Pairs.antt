-- Bracket pairs: UAX #9, BD14 to BD16.
use Rattle.std.specs.Prelude.{ℕ, zero, suc, ◌==◌, nat_le, nat_lt, not, ◌&&◌, Bool, true, false, List, [], ◌∷◌, ◌++◌, filter, find, length, slice_index_or, Option, Some, None, if◌then◌else◌}
use Rattle.std.specs.List.{list_any, filter_map}
use Rattle.bg_types.specs.declared.class.Bidi.{Bidi}
use Rattle.bg_types.specs.declared.class.Bidi.TheVariants.{On}
use Rattle.unicode_tables.specs.Tables.{TableValues, bracket_of}
use Rattle.unicode_tables.specs.declared.bracket.Bracket.{Bracket}
use Rattle.unicode_tables.specs.declared.bracket.Bracket.TheVariants.{Open, Close, None as no_bracket}
use Rattle.bracket_pairs.specs.declared.role.Role.{Role}
use Rattle.bracket_pairs.specs.declared.role.Role.TheVariants.{Opening, Closing, Neither}

-- U+2329 equals U+3008, and U+232A equals U+3009
unfoldable pub canonical : ℕ → ℕ
canonical c = if c == 0x2329 then 0x3008 else if c == 0x232A then 0x3009 else c

-- what a bracket does: an opening one waits for its partner, and a closing one ends what waits for it
unfoldable pub bracket_role : ℕ → Bracket → Role
bracket_role c (Open partner) = Opening (canonical partner)
bracket_role c (Close partner) = Closing (canonical c)
bracket_role c no_bracket = Neither

-- BD14, BD15: only a bracket whose current type is ON counts
unfoldable pub role_of : TableValues → ℕ → Bidi → Role
role_of tables c On = bracket_role c (bracket_of tables c)
role_of tables c _ = Neither

-- the role of each character of a sequence
abbrev pub roles : TableValues → List ℕ → List Bidi → List Role
roles tables [] types = []
roles tables (c ∷ chars) [] = []
roles tables (c ∷ chars) (t ∷ types) = role_of tables c t ∷ roles tables chars types

abbrev pub role_at : List Role → ℕ → Role
role_at rs i = slice_index_or rs i Neither

abbrev pub opens : Role → Bool
opens (Opening partner) = true
opens (Closing c) = false
opens Neither = false

-- whether an opening bracket waits for a closing one
abbrev pub is_closed_by : Role → Role → Bool
is_closed_by (Opening partner) (Closing c) = partner == c
is_closed_by (Opening partner) (Opening c) = false
is_closed_by (Opening partner) Neither = false
is_closed_by (Closing c) closing = false
is_closed_by Neither closing = false

-- the places of two brackets
pub record Pair : Type 0 where
  pub opening : ℕ
  pub closing : ℕ

abbrev pub pair_of : (opening closing : ℕ) → Pair
pair_of opening closing = record { opening = opening; closing = closing }

-- the places before n
abbrev pub places : ℕ → List ℕ
places zero = []
places (suc n) = places n ++ n ∷ []

-- the places before n, the last first
abbrev pub places_back : ℕ → List ℕ
places_back zero = []
places_back (suc n) = n ∷ places_back n

-- an opening bracket at i is open as long as no closing one after it has matched at or before i
abbrev pub is_open : List Role → List Pair → ℕ → Bool
is_open rs pairs i = opens (role_at rs i) && not (list_any (λ p. nat_le p.opening i && nat_lt i p.closing) pairs)

-- the places that are open at j, the last first, where closing brackets before j made these pairs
abbrev pub open_at : List Role → List Pair → ℕ → List ℕ
open_at rs pairs j = filter (is_open rs pairs) (places_back j)

-- the greatest place before n that passes
abbrev pub greatest_before : (ℕ → Bool) → ℕ → Option ℕ
greatest_before p zero = None
greatest_before p (suc n) = if p n then Some n else greatest_before p n

-- the greatest place that is open at j and waits for the bracket there
abbrev pub match_at : List Role → List Pair → ℕ → Option ℕ
match_at rs pairs j = greatest_before (λ i. is_open rs pairs i && is_closed_by (role_at rs i) (role_at rs j)) j

-- the pair that j makes, if it makes one
abbrev pub pair_to : ℕ → Option ℕ → List Pair
pair_to j None = []
pair_to j (Some i) = pair_of i j ∷ []

-- the pairs that closing brackets before j make, in the order of these
abbrev pub pairs_before : List Role → ℕ → List Pair
pairs_before rs zero = []
pairs_before rs (suc j) = let pairs = pairs_before rs j in pairs ++ pair_to j (match_at rs pairs j)

-- an opening bracket at which 63 are open
abbrev pub is_one_too_many : List Role → ℕ → Bool
is_one_too_many rs j = opens (role_at rs j) && nat_le 63 (length (open_at rs (pairs_before rs j) j))

abbrev pub place_or : ℕ → Option ℕ → ℕ
place_or n None = n
place_or n (Some j) = j

-- the search ends at the first opening bracket that is one too many
abbrev pub search_end : List Role → ℕ
search_end rs = place_or (length rs) (find (is_one_too_many rs) (places (length rs)))

abbrev pub opens_at : ℕ → Pair → Bool
opens_at i p = p.opening == i

-- BD16: the pairs in the order of their opening brackets
abbrev pub pairs_in_order : List Role → List Pair
pairs_in_order rs =
    let pairs = pairs_before rs (search_end rs) in
    filter_map (λ i. find (opens_at i) pairs) (places (length rs))
