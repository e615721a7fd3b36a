-- Where identifiers are at home, by groups of eight whose counters are neighbours.
use Rattle.std.specs.Prelude.{◌≡◌, ◌+◌, ◌*◌, ◌/◌, ◌%◌, ◌<◌, ◌≤◌, ℕ, zero, suc, Bool, true, List, length, get_or, Option, Some, None, vec_capacity}
use Rattle.std.specs.HashMap.{get, hash_map_len, spare}
use Rattle.bg_types.specs.Identifier.{Identifier, same_id}
use Rattle.rga_sequence.specs.declared.index.Index.{Index}

-- the group of an identifier, named by an identifier
abbrev pub group_of : Identifier → Identifier
group_of q = record { counter = q.counter / 8 + 1; site = q.site }

-- the block's number that an entry stands for
abbrev pub number_in : ℕ → Option ℕ
number_in zero = None
number_in (suc n) = Some n

-- the number of an identifier's block, where its group has this number
abbrev pub home_at : List ℕ → Identifier → Option ℕ → Option ℕ
home_at ns q None = None
home_at ns q (Some place) = number_in (get_or ns (8 * place + q.counter % 8) 0)

-- the number of an identifier's block, if it stands in one
abbrev pub home_in : (Identifier → Identifier → Bool) → Index → Identifier → Option ℕ
home_in eq index q = home_at index.numbers.items q (get eq index.groups (group_of q))

-- each group has eight entries of its own
pub record IsGrouped (eq : Identifier → Identifier → Bool) (index : Index) : Type 0 where
  pub sized : length index.numbers.items ≡ 8 * hash_map_len index.groups
  pub within : (g : Identifier) (place : ℕ) → get eq index.groups g ≡ Some place → place < hash_map_len index.groups
  pub apart : (g h : Identifier) (place : ℕ) → get eq index.groups g ≡ Some place → get eq index.groups h ≡ Some place → same_id g h ≡ true
  pub recent : (g : Identifier) (place : ℕ) → index.recent ≡ Some (g, place) → get eq index.groups g ≡ Some place

-- n more identifiers take no memory, even where each has a group of its own
abbrev pub HasIndexRoom : Index → ℕ → Type 0
HasIndexRoom index n = (n ≤ spare index.groups) × (length index.numbers.items + 8 * n ≤ vec_capacity index.numbers)
