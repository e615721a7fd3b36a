-- What a desk that is asked to tells of its text: *told of the right character*.
use Rattle.std.specs.Prelude.{◌≡◌, ◌+◌, ◌-◌, ◌++◌, ◌&&◌, ◌||◌, ℕ, Bool, true, false, not, List, [], ◌∷◌, take, count_by, if◌then◌else◌}
use Rattle.std.specs.List.{prefix_len}
use Rattle.std.specs.Option.{option_map_or}
use Rattle.std.specs.FinMap as map
use Rattle.std.specs.FinSet as set
use Rattle.bg_types.specs.Identifier.{Identifier, same_id}
use Rattle.bg_types.specs.OperationSet.{OperationSet, AllWellFormed}
use Rattle.bg_types.specs.declared.op.OpView.{OpView}
use Rattle.bg_types.specs.declared.op.OpView.TheVariants.{Insert, Erase}
use Rattle.bg_types.specs.declared.op.Place.TheVariants.{Root}
use Rattle.bg_types.specs.declared.change.Change.{Change}
use Rattle.bg_types.specs.declared.change.Change.TheVariants.{Put, Cut}
use Rattle.rga_tree.specs.Walk.{walk}
use Rattle.rga_tree.specs.Attached.{is_attached}
use Rattle.rga_tree.specs.Parts.{IsPartOf}
use Rattle.rga_tree.specs.TextOf.{is_erased, visible_ids}
use Rattle.pending_ops.specs.Below.{CountsBelow}
use Rattle.desk_replica.specs.declared.answer.Taken.{Taken}
use Rattle.desk_replica.specs.declared.answer.Taken.TheVariants.{Known, Placed, Hidden, Held}
use Rattle.desk_replica.specs.declared.answer.TakeFault.{TakeFault}
use Rattle.desk_replica.specs.declared.answer.TakeFault.TheVariants.{IdentifierReused, Full, Memory}
use Rattle.desk_replica.specs.Reply.{IsAdmitted, IsRefusal, attached_count}

-- ---- steps

-- a step of a text's change: an element is put, or cut
pub data TextStep : Type 0 where
  puts : Identifier → TextStep
  cuts : Identifier → TextStep

abbrev pub is_put : Identifier → TextStep → Bool
is_put id (puts x) = same_id id x
is_put id (cuts x) = false

abbrev pub is_cut : Identifier → TextStep → Bool
is_cut id (puts x) = false
is_cut id (cuts x) = same_id id x

-- S shows the identifier: the walk lists it, and it is not erased
abbrev pub is_shown : OperationSet → Identifier → Bool
is_shown s id = is_attached s id && not (is_erased s id)

-- what S shows, T shows
abbrev pub ShowsAll : (s t : OperationSet) → Type 0
ShowsAll s t = (id : Identifier) → is_shown s id ≡ true → is_shown t id ≡ true

-- the steps from S to T, which has what S has: each element that T shows and S does not is put exactly once, each that S
-- shows and T does not is cut exactly once, and no other is in the list
pub record AreSteps (s t : OperationSet) (steps : List TextStep) : Type 0 where
  pub part : IsPartOf s t
  pub well_formed : AllWellFormed t
  pub each_put : (id : Identifier) → count_by (is_put id) steps ≡ (if is_shown t id && not (is_shown s id) then 1 else 0)
  pub each_cut : (id : Identifier) → count_by (is_cut id) steps ≡ (if is_shown s id && not (is_shown t id) then 1 else 0)

-- ---- what is told of them

-- which elements are present after a step
abbrev pub present_after : (Identifier → Bool) → TextStep → Identifier → Bool
present_after present (puts x) id = same_id id x || present id
present_after present (cuts x) id = not (same_id id x) && present id

-- how many present elements stand before an identifier in the walk of T
abbrev pub present_before : OperationSet → (Identifier → Bool) → Identifier → ℕ
present_before t present id = count_by (λ e. present e.0) (take (prefix_len (λ e. not (same_id id e.0)) (walk t Root)) (walk t Root))

abbrev pub char_of : OperationSet → Identifier → ℕ
char_of t id = option_map_or (λ node. node.ch) (map.get t.ins id) 0

-- what is told of a step: as its place, how many of the elements present at that moment stand before it in the walk of T
abbrev pub told_of : OperationSet → (Identifier → Bool) → TextStep → Change
told_of t present (puts id) = Put (present_before t present id) (char_of t id)
told_of t present (cuts id) = Cut (present_before t present id)

-- and of steps, one after the other
abbrev pub changes_of : OperationSet → (Identifier → Bool) → List TextStep → List Change
changes_of t present [] = []
changes_of t present (step ∷ steps) = told_of t present step ∷ changes_of t (present_after present step) steps

-- the list has grown by what is told of the steps from S to T, where at first those elements are present that S shows
pub record IsTold (s t : OperationSet) (old new : List Change) : Type 0 where
  pub steps : List TextStep
  pub are_steps : AreSteps s t steps
  pub appended : new ≡ old ++ changes_of t (is_shown s) steps

-- how many changes that is: one for each element that only one of S and T shows
abbrev pub change_count : (s t : OperationSet) → ℕ
change_count s t = count_by (λ id. not (is_shown s id)) (visible_ids t) + count_by (λ id. not (is_shown t id)) (visible_ids s)

-- ---- how many are told at most

-- of an operation that a desk with S takes: of a deletion one, of an insertion one more than those that wait below it
abbrev pub TellsAtMost : OperationSet → OpView → ℕ → Type 0
TellsAtMost s (Insert id parent ch) n = (m : ℕ) × CountsBelow s id m × (n ≡ m + 1)
TellsAtMost s (Erase target) n = n ≡ 1

-- of what was answered: one for each insertion that was placed, one where an element was hidden
abbrev pub most_told : Taken → ℕ
most_told Known = 0
most_told (Placed n) = n + 1
most_told Hidden = 1
most_told Held = 0

-- how many insertions of S are attached, and how many deletions it has: when both grow, so many changes are told at most
abbrev pub seen_count : OperationSet → ℕ
seen_count s = attached_count s + set.len s.del

-- how many insertions of S wait
abbrev pub waiting_count : OperationSet → ℕ
waiting_count s = map.len s.ins - attached_count s

-- ---- faults

-- the faults of a desk that tells: its refusals, and lack of memory, which may meet any new operation
abbrev pub IsUntaken : OperationSet → OpView → TakeFault → Type 0
IsUntaken s op IdentifierReused = IsRefusal s op IdentifierReused
IsUntaken s op Full = IsRefusal s op Full
IsUntaken s op Memory = IsAdmitted s op
