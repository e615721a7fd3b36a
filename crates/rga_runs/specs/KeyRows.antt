-- The keys of all leaves, and for how many there is memory for certain.
use Rattle.std.specs.Prelude.{ℕ, ◌+◌, ◌*◌, List, vec_len}
use Rattle.rga_runs.specs.declared.key.Key.{Key}
use Rattle.rga_runs.specs.declared.keys.Keys.{Keys}
use Rattle.rga_runs.specs.Leaves.{all_keys}

abbrev pub keys_in : Keys → List Key
keys_in k = all_keys k.leaves.items

abbrev pub key_room : Keys → ℕ
key_room k = 128 * (vec_len k.leaves + vec_len k.spares)
