-- What a change makes of a text, and the operations by which a site makes it.
use Rattle.std.specs.Prelude.{◌≡◌, ◌<◌, ◌≤◌, ◌+◌, ◌-◌, ◌^◌, ◌++◌, ℕ, List, length, take, drop, unwrap_or}
use Rattle.bg_types.specs.Identifier.{Identifier}
use Rattle.bg_types.specs.OperationSet.{OperationSet, next, size}
use Rattle.bg_types.specs.declared.op.OpView.{OpView}
use Rattle.rga_tree.specs.TextOf.{visible, visible_ids}
use Rattle.desk_replica.specs.Typing.{parent_at}
use Rattle.desk_replica.specs.Replacement.{deletions, insertions}
use Rattle.desk_files.specs.declared.run_fault.RunFault.TheVariants.{Memory}
use Rattle.desk_runs.specs.declared.change.Change.{Change}
use Rattle.desk_runs.specs.declared.typing_fault.TypingFault.{TypingFault}
use Rattle.desk_runs.specs.declared.typing_fault.TypingFault.TheVariants.{NotUtf8, Run, PastEnd, Full, CounterSpent}

-- the list with a number of elements from a place on replaced by others
abbrev pub replaced : {T : Type 0} → List T → (place count : ℕ) → List T → List T
replaced xs place count new = take place xs ++ (new ++ drop (place + count) xs)

-- where the change is made in the text of S: at its end, if it names no place
abbrev pub place_in : OperationSet → Change → ℕ
place_in s change = unwrap_or change.place (length (visible s))

-- the identifier of the first character that is typed
abbrev pub first_id : OperationSet → Change → Identifier
first_id s change = record { counter = next s; site = change.site }

-- what the site makes if its desk has S: it erases, and types after the visible character before the place
abbrev pub operations_of : OperationSet → Change → List ℕ → List OpView
operations_of s change typed =
    deletions s (place_in s change) change.erased ++ insertions (first_id s change) (parent_at (visible_ids s) (place_in s change)) typed

-- what is erased is there, each character gets a counter, and the operations together are at most 1,000,000
pub record Fits (s : OperationSet) (change : Change) (typed : List ℕ) : Type 0 where
  pub within : place_in s change + change.erased ≤ length (visible s)
  pub room : size s + change.erased + length typed ≤ 1_000_000
  pub counters : length typed ≤ 2 ^ 32 - next s

-- the first of these conditions that the change does not meet. Lack of memory has no cause
abbrev pub IsUnfit : OperationSet → Change → List ℕ → TypingFault → Type 0
IsUnfit s change typed (PastEnd place erased) = (place ≡ place_in s change) × (erased ≡ change.erased) × (length (visible s) < place + erased)
IsUnfit s change typed Full = (place_in s change + change.erased ≤ length (visible s)) × (1_000_000 < size s + change.erased + length typed)
IsUnfit s change typed CounterSpent =
    (place_in s change + change.erased ≤ length (visible s)) × (size s + change.erased + length typed ≤ 1_000_000) × (2 ^ 32 - next s < length typed)
IsUnfit s change typed (Run fault) = fault ≡ Memory
IsUnfit s change typed (NotUtf8 byte) = ⊥
