-- Runs of a world of desks: steps done one after the other, from fresh desks with distinct sites.
use Rattle.std.specs.Prelude.{◌≡◌, ◌≢◌, ◌<◌, ◌++◌, ℕ, List, [], ◌∷◌, All, Result, Ok, Err, length}
use Rattle.std.specs.List.{AllPairs}
use Rattle.bg_types.specs.OperationSet.{OperationSet, no_operations}
use Rattle.bg_types.specs.declared.op.OpView.{OpView}
use Rattle.desk_replica.specs.declared.answer.TypeFault.{TypeFault}
use Rattle.desk_replica.specs.declared.answer.TypeFault.TheVariants.{Memory}
use Rattle.desk_replica.specs.declared.world.step.Step.{Step}
use Rattle.desk_replica.specs.declared.world.step.Reply.{Reply}
use Rattle.desk_replica.specs.declared.world.step.Reply.TheVariants.{Done, Refused}
use Rattle.desk_replica.specs.Codes.{type_code}
use Rattle.desk_replica.specs.Desk.{Desk}
use Rattle.desk_replica.specs.DeskSets.{sets_of, sites_of, empty_desks}
use Rattle.desk_replica.specs.Merging.{with_operations}
use Rattle.desk_replica.specs.WorldStep.{WorldState, WorldStep}

-- desks may have these sites: each is at least 1, and none comes twice
pub record AreSites (sites : List ℕ) : Type 0 where
  pub positive : All (λ site. 0 < site) sites
  pub apart : AllPairs (λ a b. a ≢ b) sites

-- `count` desks that have nothing, and nothing made
abbrev pub empty_world : ℕ → WorldState
empty_world count = record { sets = empty_desks count; made = [] }

-- what desks have, and what was made
abbrev pub world_of : List Desk → List OpView → WorldState
world_of desks made = record { sets = sets_of desks; made = made }

-- from w the steps lead to v, one after the other, each with its reply
abbrev pub WorldRun : List ℕ → WorldState → List Step → List Reply → WorldState → Type 0
WorldRun sites w [] [] v = v ≡ w
WorldRun sites w [] (reply ∷ replies) v = ⊥
WorldRun sites w (step ∷ steps) [] v = ⊥
WorldRun sites w (step ∷ steps) (reply ∷ replies) v = (u : WorldState) × WorldStep sites w step reply u × WorldRun sites u steps replies v

-- the reply to what a desk made, which is then the last of the operations made, or refused to make. Lack of memory is no reply
abbrev pub IsReplied : Result OpView TypeFault → List OpView → List OpView → Reply → Type 0
IsReplied (Ok op) made more reply = (reply ≡ Done) × (more ≡ made ++ op ∷ [])
IsReplied (Err fault) made more reply = (reply ≡ Refused (type_code fault)) × (fault ≢ Memory) × (more ≡ made)

-- the desks do a step, and keep their sites
pub record DoStep (old : List Desk) (made : List OpView) (step : Step) (new : List Desk) (more : List OpView) (reply : Reply) : Type 0 where
  pub done : WorldStep (sites_of old) (world_of old made) step reply (world_of new more)
  pub sites : sites_of new ≡ sites_of old

-- the desks do steps one after the other, and keep their sites
pub record DoSteps (old : List Desk) (made : List OpView) (steps : List Step) (new : List Desk) (more : List OpView) (replies : List Reply) : Type 0 where
  pub run : WorldRun (sites_of old) (world_of old made) steps replies (world_of new more)
  pub sites : sites_of new ≡ sites_of old

-- v comes from w by steps, or is w
pub record IsLater (sites : List ℕ) (w v : WorldState) : Type 0 where
  pub steps : List Step
  pub replies : List Reply
  pub run : WorldRun sites w steps replies v

-- w comes from fresh desks with distinct sites
pub record IsWorld (sites : List ℕ) (w : WorldState) : Type 0 where
  pub are_sites : AreSites sites
  pub later : IsLater sites (empty_world (length sites)) w

-- all operations made, as one set
abbrev pub all_made : WorldState → OperationSet
all_made w = with_operations no_operations w.made
