-- What one who is told of changes has heard.
use Rattle.std.specs.Prelude.{◌≡◌, ◌≤◌, ◌+◌, ◌++◌, ℕ, true, List, Option, None, Some, length}
use Rattle.std.specs.Option.{option_map, option_map_or}
use Rattle.std.specs.FinSet as set
use Rattle.bg_types.specs.Identifier.{Identifier, id_cmp}
use Rattle.bg_types.specs.OperationSet.{OperationSet}
use Rattle.bg_types.specs.declared.change.Change.{Change}
use Rattle.bg_types.specs.declared.op.OpView.{OpView}
use Rattle.bg_types.specs.declared.op.OpView.TheVariants.{Insert, Erase}
use Rattle.pending_ops.specs.Waiting.{Waiting, NoneReady, Releases}
use Rattle.pending_ops.specs.Below.{IsBelow}
use Rattle.desk_replica.specs.Telling.{TextStep, AreSteps, changes_of, is_shown, seen_count}

-- what was told, where it is listed, and then more changes
abbrev pub extended : Option (List Change) → List Change → Option (List Change)
extended told more = option_map (λ changes. changes ++ more) told

abbrev pub told_count : Option (List Change) → ℕ
told_count told = option_map_or length told 0

-- where so many may be listed, there is room for n more. Where nothing is listed, there always is
abbrev pub HasRoom : Option (List Change) → (capacity n : ℕ) → Type 0
HasRoom None capacity n = Unit {0}
HasRoom (Some changes) capacity n = length changes + n ≤ capacity

-- there is room for what an operation may tell where S waits: of a deletion one change, of an insertion one, and one for
-- each of those that wait below it
abbrev pub HasRoomFor : Option (List Change) → ℕ → OperationSet → OpView → Type 0
HasRoomFor told capacity s (Insert id parent ch) = (below : set.FinSet id_cmp) → ((q : Identifier) → set.contains below q ≡ true → IsBelow s id q) → HasRoom told capacity (set.len below + 1)
HasRoomFor told capacity s (Erase target) = HasRoom told capacity 1

-- what waits right after an identifier was released, and there is room for what is below it to be told
pub record HasRoomBelow (told : Option (List Change)) (capacity : ℕ) (now : Waiting) : Type 0 where
  pub before : Waiting
  pub id : Identifier
  pub none_ready : NoneReady before
  pub releases : Releases before id now
  pub room : (below : set.FinSet id_cmp) → ((q : Identifier) → set.contains below q ≡ true → IsBelow before.held id q) → HasRoom told capacity (set.len below)

-- what was told has grown by what is told of the steps from S to T
pub record Tells (s t : OperationSet) (old new : Option (List Change)) : Type 0 where
  pub steps : List TextStep
  pub are_steps : AreSteps s t steps
  pub appended : new ≡ extended old (changes_of t (is_shown s) steps)

-- the same, with no more changes than T has attached insertions and deletions more than S. What may be listed did not shrink
pub record IsHeard (s t : OperationSet) (old new : Option (List Change)) (before after : ℕ) : Type 0 where
  pub tells : Tells s t old new
  pub few : told_count new + seen_count s ≤ told_count old + seen_count t
  pub capacity : before ≤ after
