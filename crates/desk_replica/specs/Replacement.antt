-- What a desk makes where a number of characters are typed or erased at once.
use Rattle.std.specs.Prelude.{◌≡◌, ◌+◌, ◌-◌, ◌<◌, ◌≤◌, ◌^◌, ◌++◌, ℕ, List, true, take, drop, map as each}
use Rattle.std.specs.FinMap as map
use Rattle.bg_types.specs.Identifier.{Identifier}
use Rattle.bg_types.specs.OperationSet.{OperationSet, next, size}
use Rattle.bg_types.specs.declared.op.OpView.{OpView}
use Rattle.bg_types.specs.declared.op.OpView.TheVariants.{Insert, Erase}
use Rattle.rga_tree.specs.TextOf.{visible_ids}
use Rattle.rga_tree.specs.Run.{later}
pub use Rattle.rga_tree.specs.Run.{insertions}
use Rattle.desk_replica.specs.Merging.{with_operations}
use Rattle.desk_replica.specs.Typing.{parent_at}
use Rattle.desk_replica.specs.declared.answer.TypeFault.{TypeFault}
use Rattle.desk_replica.specs.declared.answer.TypeFault.TheVariants.{CounterSpent, Full, Memory}

-- the identifier that a desk of this site with S gives to what it types next
abbrev pub next_id : OperationSet → ℕ → Identifier
next_id s site = record { counter = next s; site = site }

-- and the one that it gives after that
abbrev pub id_after : Identifier → Identifier
id_after id = later id 1

-- what a desk of this site with S makes where characters are typed from a place on
abbrev pub typed_text : OperationSet → (site place : ℕ) → List ℕ → List OpView
typed_text s site place chs = insertions (next_id s site) (parent_at (visible_ids s) place) chs

-- the deletions of a number of visible characters from a place on
abbrev pub deletions : OperationSet → (place count : ℕ) → List OpView
deletions s place count = each Erase (take count (drop place (visible_ids s)))

-- what a desk of this site with S makes where a number of characters from a place on are replaced: the deletions, and
-- then the insertions, typed at that place
abbrev pub replacement : OperationSet → (site place count : ℕ) → List ℕ → List OpView
replacement s site place count chs = let gone = deletions s place count in gone ++ typed_text (with_operations s gone) site place chs

-- a deletion of what is placed in the tree
abbrev pub MayHide : OperationSet → OpView → Type 0
MayHide t (Insert id parent ch) = ⊥
MayHide t (Erase target) = map.contains_key t.ins target ≡ true

-- a desk with S does not type n characters: fewer counters are left, or else there would be more than 1,000,000
-- operations. Lack of memory is of no characters
abbrev pub IsTextRefusal : OperationSet → ℕ → TypeFault → Type 0
IsTextRefusal s n CounterSpent = 2 ^ 32 - next s < n
IsTextRefusal s n Full = (n ≤ 2 ^ 32 - next s) × (1_000_000 < size s + n)
IsTextRefusal s n Memory = ⊥

-- the faults: those refusals, and lack of memory
abbrev pub IsTextRefused : OperationSet → ℕ → TypeFault → Type 0
IsTextRefused s n CounterSpent = IsTextRefusal s n CounterSpent
IsTextRefused s n Full = IsTextRefusal s n Full
IsTextRefused s n Memory = (n ≤ 2 ^ 32 - next s) × (size s + n ≤ 1_000_000)

-- why a desk with S does not erase n characters
abbrev pub IsRangeRefused : OperationSet → ℕ → TypeFault → Type 0
IsRangeRefused s n CounterSpent = ⊥
IsRangeRefused s n Full = 1_000_000 < size s + n
IsRangeRefused s n Memory = size s + n ≤ 1_000_000

-- a desk with S does not put n characters instead of m: fewer counters are left, or else there would be more than
-- 1,000,000 operations. Lack of memory is of no characters
abbrev pub IsReplaceRefusal : OperationSet → (m n : ℕ) → TypeFault → Type 0
IsReplaceRefusal s m n CounterSpent = 2 ^ 32 - next s < n
IsReplaceRefusal s m n Full = (n ≤ 2 ^ 32 - next s) × (1_000_000 < size s + (m + n))
IsReplaceRefusal s m n Memory = ⊥

-- the faults: those refusals, and lack of memory
abbrev pub IsReplaceRefused : OperationSet → (m n : ℕ) → TypeFault → Type 0
IsReplaceRefused s m n CounterSpent = IsReplaceRefusal s m n CounterSpent
IsReplaceRefused s m n Full = IsReplaceRefusal s m n Full
IsReplaceRefused s m n Memory = (n ≤ 2 ^ 32 - next s) × (size s + (m + n) ≤ 1_000_000)
