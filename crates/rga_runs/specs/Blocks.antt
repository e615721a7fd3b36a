-- Lists of stretches in parts.
use Rattle.std.specs.Prelude.{◌+◌, ◌<◌, ◌≤◌, ℕ, Bool, not, List, [], length, take, get_or}
use Rattle.std.specs.List.{flat_map, list_all, prefix_len}
use Rattle.std.specs.Ordering.{is_lt}
use Rattle.bg_types.specs.Identifier.{Identifier, id_cmp}
use Rattle.rga_runs.specs.declared.stretch.Stretch.{Stretch}

-- the stretches of all blocks, in order
abbrev pub row_of : List (List Stretch) → List Stretch
row_of xs = flat_map (λ x. x) xs

-- where stretch j of block b stands in the whole row
abbrev pub at_spot : List (List Stretch) → ℕ → ℕ → ℕ
at_spot xs b j = length (row_of (take b xs)) + j

-- no stretch begins with a lesser identifier
abbrev pub none_below : Identifier → List Stretch → Bool
none_below least ss = list_all (λ s. not (is_lt (id_cmp s.first least))) ss

-- how many stretches at the front begin with a greater identifier
abbrev pub passed : Identifier → List Stretch → ℕ
passed id ss = prefix_len (λ s. is_lt (id_cmp id s.first)) ss

-- each list but the last is at least half full, where 256 fill one
abbrev pub AreHalfFull : {X : Type 0} → List (List X) → Type 0
AreHalfFull xs = (q : ℕ) → q + 1 < length xs → 128 ≤ length (get_or xs q [])
