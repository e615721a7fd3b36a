-- What a desk of a list did is a step of the world of those desks, and steps make a run.
use Rattle.std.proofs.Common.{◌≡◌, ◌<◌, ◌≤◌, ◌+◌, ℕ, List, [], ◌∷◌, ◌++◌, length, take, drop, get_or, sym, ap, subst, ◌∙◌, refl, arith}
use Rattle.std.specs.Prelude.{slice_get, map as each}
use Rattle.std.proofs.Math.ListN.{set}
use Rattle.std.proofs.Math.Seq.{take-append_seam}
use Rattle.std.proofs.lemmas.List.{get_or-map, length-map, take_more}
use Rattle.bg_types.specs.WellFormed.{IsWellFormed}
use Rattle.bg_types.specs.OperationSet.{OperationSet, no_operations, with_operation, size}
use Rattle.bg_types.specs.declared.op.OpView.{OpView}
use Rattle.rga_tree.specs.TextOf.{visible, visible_ids}
use Rattle.desk_replica.specs.declared.answer.TypeFault.{TypeFault}
use Rattle.desk_replica.specs.declared.world.step.Step.{Step}
use Rattle.desk_replica.specs.declared.world.step.Step.TheVariants.{Typed, Erase}
use Rattle.desk_replica.specs.declared.world.step.Reply.{Reply}
use Rattle.desk_replica.specs.declared.world.step.Reply.TheVariants.{Done}
use Rattle.desk_replica.specs.Desk.{Desk, fresh}
use Rattle.desk_replica.specs.DeskSets.{sets_of, sites_of, set_at, with_set, empty_desks}
use Rattle.desk_replica.specs.Typing.{typed, insertion, IsTypeRefusal, IsErasedAt}
use Rattle.desk_replica.specs.WorldStep.{WorldState, WorldStep, site_at, with_made, typed_there}
use Rattle.desk_replica.specs.WorldRun.{world_of, empty_world, WorldRun, DoStep, DoSteps}
use Rattle.desk_replica.proofs.DeskLists.{set_at-desk, sets_of-set, sites_of-set}

-- ---- a desk of the list made an operation

module _ (desks : List Desk) (made : List OpView) (desk : ℕ) (x after : Desk) (within : desk < length desks) where
  abbrev own : Desk
  own = get_or desks desk x

  abbrev here : WorldState
  here = world_of desks made

  own_set : set_at (sets_of desks) desk ≡ own.set
  own_set = set_at-desk desks desk x within

  own_site : site_at (sites_of desks) desk ≡ own.site
  own_site = get_or-map (λ (d : Desk). d.site) desks desk x 0 within

  there : desk < length (sets_of desks)
  there = let many = length-map desks (λ (d : Desk). d.set) in omega (arith, many)

  made_there : (op : OpView) (more : List OpView) → after.set ≡ with_operation own.set op → more ≡ made ++ op ∷ [] → world_of (set desks desk after) more ≡ with_made here desk op
  made_there op more grown longer =
      let sets : sets_of (set desks desk after) ≡ with_set (sets_of desks) desk (with_operation (set_at (sets_of desks) desk) op) =
      sets_of-set desks desk after ∙ ap (with_set (sets_of desks) desk) (grown ∙ ap (λ (s : OperationSet). with_operation s op) (sym own_set)) in
      (λ i. record { sets = sets i; made = longer i })

  pub typed_done : (place ch : ℕ) (op : OpView) (more : List OpView) → place ≤ length (visible own.set) → op ≡ insertion (typed own.set own.site place ch) → IsWellFormed op
      → ((fault : TypeFault) → ¬ (IsTypeRefusal own.set fault)) → after.set ≡ with_operation own.set (insertion (typed own.set own.site place ch)) → after.site ≡ own.site → more ≡ made ++ op ∷ []
      → DoStep desks made (Typed desk place ch) (set desks desk after) more Done
  typed_done place ch op more at is formed accepted grown site longer =
      let same : op ≡ typed_there (sites_of desks) here desk place ch = is ∙ sym (λ i. insertion (typed (own_set i) (own_site i) place ch)) in
      record {
        done = (
          (there, subst (λ (s : OperationSet). place ≤ length (visible s)) (sym own_set) at),
          (
            subst IsWellFormed same formed,
            subst (λ (s : OperationSet). (fault : TypeFault) → ¬ (IsTypeRefusal s fault)) (sym own_set) accepted,
            subst (λ (o : OpView). world_of (set desks desk after) more ≡ with_made here desk o) same (made_there op more (grown ∙ ap (with_operation own.set) (sym is)) longer),
          ),
        );
        sites = sites_of-set desks desk after x site;
      }

  pub erased_done : (place : ℕ) (op : OpView) (more : List OpView) → place < length (visible own.set) → IsErasedAt own.set after.set place op → size own.set < 1_000_000 → after.site ≡ own.site → more ≡ made ++ op ∷ []
      → DoStep desks made (Erase desk place) (set desks desk after) more Done
  erased_done place op more at erased room site longer =
      record {
        done = (
          (there, subst (λ (s : OperationSet). place < length (visible s)) (sym own_set) at),
          (
            erased.target,
            ap (λ (s : OperationSet). slice_get (visible_ids s) place) own_set ∙ erased.at,
            subst (λ (s : OperationSet). size s < 1_000_000) (sym own_set) room,
            subst (λ (o : OpView). world_of (set desks desk after) more ≡ with_made here desk o) erased.op_is (made_there op more erased.set_is longer),
          ),
        );
        sites = sites_of-set desks desk after x site;
      }

-- ---- steps one after the other

pub run_on : (sites : List ℕ) (w v : WorldState) (steps : List Step) (replies : List Reply) → WorldRun sites w steps replies v → (step : Step) (reply : Reply) (u : WorldState) → WorldStep sites v step reply u
    → WorldRun sites w (steps ++ step ∷ []) (replies ++ reply ∷ []) u
run_on sites w v [] [] run step reply u next = (u, subst (λ (x : WorldState). WorldStep sites x step reply u) run next, refl)
run_on sites w v [] (r ∷ replies) run step reply u next = absurd run
run_on sites w v (s ∷ steps) [] run step reply u next = absurd run
run_on sites w v (s ∷ steps) (r ∷ replies) run step reply u next = (run.0, run.1, run_on sites run.0 v steps replies run.2 step reply u next)

pub next_step : (desks mid new : List Desk) (made between more : List OpView) (steps : List Step) (i : ℕ) (d step : Step) (replies all : List Reply) (reply : Reply) → i < length steps → step ≡ get_or steps i d
    → all ≡ replies ++ reply ∷ [] → DoSteps desks made (take i steps) mid between replies → DoStep mid between step new more reply → DoSteps desks made (take (i + 1) steps) new more all
next_step desks mid new made between more steps i d step replies all reply lt is longer before now = record {
  run = subst (λ (l : List Reply). WorldRun (sites_of desks) (world_of desks made) (take (i + 1) steps) l (world_of new more)) (sym longer)
      (subst (λ (l : List Step). WorldRun (sites_of desks) (world_of desks made) l (replies ++ reply ∷ []) (world_of new more)) (sym (take_more steps i d lt ∙ ap (λ (s : Step). take i steps ++ s ∷ []) (sym is)))
      (run_on (sites_of desks) (world_of desks made) (world_of mid between) (take i steps) replies before.run step reply (world_of new more)
      (subst (λ (l : List ℕ). WorldStep l (world_of mid between) step reply (world_of new more)) before.sites now.done)));
  sites = now.sites ∙ before.sites;
}

-- ---- from fresh desks

sets_of-fresh : (sites : List ℕ) → sets_of (each fresh sites) ≡ empty_desks (length sites)
sets_of-fresh [] = refl
sets_of-fresh (site ∷ sites) = ap (λ l. no_operations ∷ l) (sets_of-fresh sites)

sites_of-fresh : (sites : List ℕ) → sites_of (each fresh sites) ≡ sites
sites_of-fresh [] = refl
sites_of-fresh (site ∷ sites) = ap (λ l. site ∷ l) (sites_of-fresh sites)

-- steps at fresh desks that were lent out of a vector
pub from_fresh : (sites : List ℕ) (items lent new : List Desk) (made more : List OpView) (steps : List Step) (replies : List Reply) (len : ℕ) → items ≡ each fresh sites → lent ≡ items → len ≡ length items → made ≡ []
    → DoSteps lent made steps new more replies
    → WorldRun sites (empty_world (length sites)) steps replies (world_of (take len (new ++ drop (length new) items)) more) × (sites_of (take len (new ++ drop (length new) items)) ≡ sites)
from_fresh sites items lent new made more steps replies len are_fresh same counted none done =
    let start : lent ≡ each fresh sites = same ∙ are_fresh in
    let kept : sites_of lent ≡ sites = ap sites_of start ∙ sites_of-fresh sites in
    let long : length new ≡ length items =
    sym (length-map new (λ (d : Desk). d.site)) ∙ ap (λ (l : List ℕ). length l) done.sites ∙ length-map lent (λ (d : Desk). d.site) ∙ ap (λ (l : List Desk). length l) same in
    let whole : take len (new ++ drop (length new) items) ≡ new = ap (λ n. take n (new ++ drop (length new) items)) (counted ∙ sym long) ∙ take-append_seam new (drop (length new) items) in
    let empty : world_of lent made ≡ empty_world (length sites) = (λ i. record { sets = (ap sets_of start ∙ sets_of-fresh sites) i; made = none i }) in (
      subst (λ (l : List Desk). WorldRun sites (empty_world (length sites)) steps replies (world_of l more)) (sym whole)
          (subst (λ (w : WorldState). WorldRun sites w steps replies (world_of new more)) empty (subst (λ (l : List ℕ). WorldRun l (world_of lent made) steps replies (world_of new more)) kept done.run)),
      ap sites_of whole ∙ done.sites ∙ kept,
    )
