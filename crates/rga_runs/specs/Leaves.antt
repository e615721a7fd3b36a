-- The keys of the leaves of a row.
use Rattle.std.specs.Prelude.{ℕ, ◌+◌, List, length, take, map as each}
use Rattle.std.specs.List.{flat_map}
use Rattle.rga_runs.specs.declared.key.Key.{Key}
use Rattle.rga_runs.specs.declared.leaf.Leaf.{Leaf}

abbrev pub keys_of : List Leaf → List (List Key)
keys_of ls = each (λ l. l.keys.items) ls

abbrev pub all_keys : List Leaf → List Key
all_keys ls = flat_map (λ x. x) (keys_of ls)

-- where key j of leaf b stands in the whole row
abbrev pub place_in : List (List Key) → ℕ → ℕ → ℕ
place_in xs b j = length (flat_map (λ x. x) (take b xs)) + j
