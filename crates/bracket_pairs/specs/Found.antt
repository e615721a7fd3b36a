-- What the search finds, as the code holds it.
use Rattle.std.specs.Prelude.{ℕ, ◌==◌, ◌<◌, ◌≤◌, ◌≡◌, List, [], ◌∷◌, Option, Some, None, if◌then◌else◌}
use Rattle.std.specs.List.{filter_map}
use Rattle.bracket_pairs.specs.declared.search.Waiting.{Waiting}
use Rattle.bracket_pairs.specs.declared.search.Opened.{Opened}
use Rattle.bracket_pairs.specs.Pairs.{Pair, pair_of}

-- the first bracket that waits for this one, and what is after it
abbrev pub closed_by : ℕ → List Waiting → Option (Waiting × List Waiting)
closed_by c [] = None
closed_by c (w ∷ waiting) = if w.partner == c then Some (w, waiting) else closed_by c waiting

abbrev pub pair_from : ℕ → Option ℕ → Option Pair
pair_from i None = None
pair_from i (Some j) = Some (pair_of i j)

-- the pair that an opening bracket makes, if it makes one
abbrev pub pair_opened : Opened → Option Pair
pair_opened o = pair_from o.place o.closing

-- the pairs of opening brackets, in the order of these
abbrev pub pairs_told : List Opened → List Pair
pairs_told openings = filter_map pair_opened openings

-- a closing bracket is after its opening one, and before n
abbrev pub IsClosedBefore : ℕ → Opened → Type 0
IsClosedBefore n o = (j : ℕ) → o.closing ≡ Some j → (o.place < j) × (j < n)

-- opening brackets are in their order, the first at `from` or after it
abbrev pub AreInOrder : (from n : ℕ) → List Opened → Type 0
AreInOrder from n [] = Unit {0}
AreInOrder from n (o ∷ openings) = (from ≤ o.place) × IsClosedBefore n o × AreInOrder o.place n openings
