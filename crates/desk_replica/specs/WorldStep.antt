-- A step of a world of desks: the definition WorldStep. Desks and operations count from 0.
use Rattle.std.specs.Prelude.{◌≡◌, ◌<◌, ◌≤◌, ◌++◌, ◌∷◌, [], ℕ, List, Some, length, slice_get, slice_index_or}
use Rattle.bg_types.specs.WellFormed.{IsWellFormed}
use Rattle.bg_types.specs.OperationSet.{OperationSet, size, next}
use Rattle.bg_types.specs.Identifier.{Identifier}
use Rattle.bg_types.specs.declared.op.OpView.{OpView}
use Rattle.bg_types.specs.declared.op.OpView.TheVariants.{Erase as EraseOp}
use Rattle.rga_tree.specs.TextOf.{visible, visible_ids}
use Rattle.desk_replica.specs.declared.answer.TakeFault.{TakeFault}
use Rattle.desk_replica.specs.declared.answer.TypeFault.{TypeFault}
use Rattle.desk_replica.specs.declared.world.step.Step.{Step}
use Rattle.desk_replica.specs.declared.world.step.Step.TheVariants.{Typed, Erase, Deliver, Merge}
use Rattle.desk_replica.specs.declared.world.step.Reply.{Reply}
use Rattle.desk_replica.specs.declared.world.step.Reply.TheVariants.{Done, Refused, NoSuch}
use Rattle.desk_replica.specs.Codes.{take_code, type_code}
use Rattle.desk_replica.specs.DeskSets.{set_at, takes, merges, sets_after_step, IsStepRefused, LeavesMerged}
use Rattle.desk_replica.specs.Typing.{typed, insertion, IsTypeRefusal}

-- the desks' sets, and all operations made, in the order in which they were made
pub record WorldState : Type 0 where
  pub sets : List OperationSet
  pub made : List OpView

-- who types at a desk
abbrev pub site_at : List ℕ → ℕ → ℕ
site_at sites desk = slice_index_or sites desk 0

-- the identifier of what is typed next at a desk
abbrev pub next_identifier : List ℕ → WorldState → ℕ → Identifier
next_identifier sites w desk = record { counter = next (set_at w.sets desk); site = site_at sites desk }

-- the desks, the operation and the place that a step names are there
abbrev pub IsThere : WorldState → Step → Type 0
IsThere w (Typed desk place ch) = (desk < length w.sets) × (place ≤ length (visible (set_at w.sets desk)))
IsThere w (Erase desk place) = (desk < length w.sets) × (place < length (visible (set_at w.sets desk)))
IsThere w (Deliver desk op) = (desk < length w.sets) × (op < length w.made)
IsThere w (Merge desk from) = (desk < length w.sets) × (from < length w.sets)

-- the desk's set is S + op, and the operation is the last one made
abbrev pub with_made : WorldState → ℕ → OpView → WorldState
with_made w desk op = record { sets = sets_after_step w.sets (takes desk op); made = w.made ++ op ∷ [] }

-- what the desk's site types at the place of the desk's text
abbrev pub typed_there : List ℕ → WorldState → ℕ → ℕ → ℕ → OpView
typed_there sites w desk place ch = insertion (typed (set_at w.sets desk) (site_at sites desk) place ch)

-- the step is done, and the world is v then. A character is inserted after the visible one before the place, with the next
-- counter of the desk's set and the desk's site; the visible character at a place is erased; an operation made before is
-- taken; or all that the other desk has is
abbrev pub IsDone : List ℕ → WorldState → Step → WorldState → Type 0
IsDone sites w (Typed desk place ch) v =
    IsWellFormed (typed_there sites w desk place ch) × ((fault : TypeFault) → ¬ (IsTypeRefusal (set_at w.sets desk) fault)) × (v ≡ with_made w desk (typed_there sites w desk place ch))
IsDone sites w (Erase desk place) v =
    (target : Identifier) × (slice_get (visible_ids (set_at w.sets desk)) place ≡ Some target) × (size (set_at w.sets desk) < 1_000_000) × (v ≡ with_made w desk (EraseOp target))
IsDone sites w (Deliver desk op) v =
    (made : OpView) × (slice_get w.made op ≡ Some made) × ((fault : TakeFault) → ¬ (IsStepRefused w.sets (takes desk made) fault))
    × (v ≡ record { sets = sets_after_step w.sets (takes desk made); made = w.made })
IsDone sites w (Merge desk from) v =
    ((fault : TakeFault) → ¬ (IsStepRefused w.sets (merges desk from) fault)) × (v ≡ record { sets = sets_after_step w.sets (merges desk from); made = w.made })

-- the step is refused with this number, and the world is v then: as it was, but that a merge which meets the limit may leave
-- its desk with part of what the other one has
abbrev pub IsRefusedAs : WorldState → Step → ℕ → WorldState → Type 0
IsRefusedAs w (Typed desk place ch) number v = (fault : TypeFault) × IsTypeRefusal (set_at w.sets desk) fault × (number ≡ type_code fault) × (v ≡ w)
IsRefusedAs w (Erase desk place) number v = (size (set_at w.sets desk) ≡ 1_000_000) × (number ≡ 2) × (v ≡ w)
IsRefusedAs w (Deliver desk op) number v =
    (made : OpView) × (slice_get w.made op ≡ Some made) × ((fault : TakeFault) × IsStepRefused w.sets (takes desk made) fault × (number ≡ take_code fault)) × (v ≡ w)
IsRefusedAs w (Merge desk from) number v =
    ((fault : TakeFault) × IsStepRefused w.sets (merges desk from) fault × (number ≡ take_code fault) × LeavesMerged w.sets v.sets desk from fault) × (v.made ≡ w.made)

-- a step in a world w of desks at these sites, its reply, and the world after it
abbrev pub WorldStep : List ℕ → WorldState → Step → Reply → WorldState → Type 0
WorldStep sites w step NoSuch v = (¬ (IsThere w step)) × (v ≡ w)
WorldStep sites w step Done v = IsThere w step × IsDone sites w step v
WorldStep sites w step (Refused number) v = IsThere w step × IsRefusedAs w step number v
