-- The step of a world that names what is not there, the step by what was made before, and the step that is refused.
use Rattle.std.proofs.Common.{◌≡◌, ◌≢◌, ◌<◌, ◌≤◌, ℕ, List, length, get_or, Result, Ok, Err, Some, ◌⊎◌, inl, inr, refl, sym, ap, subst, ◌∙◌}
use Rattle.std.specs.Prelude.{IfOk, IfErr, OnOk, OnErr, slice_get}
use Rattle.std.proofs.Math.ListN.{set}
use Rattle.std.proofs.lemmas.List.{length-map, set-get_or}
use Rattle.bg_types.specs.WellFormed.{IsWellFormed}
use Rattle.bg_types.specs.OperationSet.{OperationSet, size, with_operation}
use Rattle.bg_types.specs.declared.op.OpView.{OpView}
use Rattle.rga_tree.specs.TextOf.{visible}
use Rattle.desk_replica.specs.declared.answer.TakeFault.{TakeFault}
use Rattle.desk_replica.specs.declared.answer.TakeFault.TheVariants.{Memory}
use Rattle.desk_replica.specs.declared.answer.TypeFault.{TypeFault}
use Rattle.desk_replica.specs.declared.answer.TypeFault.TheVariants.{CounterSpent, Full as TypingFull, Memory as TypingMemory}
use Rattle.desk_replica.specs.declared.world.step.Step.{Step}
use Rattle.desk_replica.specs.declared.world.step.Step.TheVariants.{Typed, Erase, Deliver, Merge}
use Rattle.desk_replica.specs.declared.world.step.Reply.{Reply}
use Rattle.desk_replica.specs.declared.world.step.Reply.TheVariants.{Done, Refused, NoSuch}
use Rattle.desk_replica.specs.Codes.{take_code, type_code}
use Rattle.desk_replica.specs.Desk.{Desk}
use Rattle.desk_replica.specs.DeskSets.{sets_of, sites_of, set_at, takes, merges, sets_after_step, IsStepRefused, LeavesMerged}
use Rattle.desk_replica.specs.Typing.{typed, insertion, IsErasedAt, IsTypeRefusal, IsTypeRefused}
use Rattle.desk_replica.specs.WorldStep.{WorldState, WorldStep, IsThere, IsRefusedAs}
use Rattle.desk_replica.specs.WorldRun.{world_of, DoStep, IsReplied}
use Rattle.desk_replica.proofs.DeskLists.{set_at-desk}
use Rattle.desk_replica.proofs.WorldSteps.{typed_done, erased_done}

refusal_of : (s : OperationSet) (fault : TypeFault) → fault ≢ TypingMemory → IsTypeRefused s fault → IsTypeRefusal s fault
refusal_of s CounterSpent told h = h
refusal_of s TypingFull told h = h
refusal_of s TypingMemory told h = absurd (told refl)

module _ (desks : List Desk) (made : List OpView) where
  abbrev here : WorldState
  here = world_of desks made

  counted : length (sets_of desks) ≡ length desks
  counted = length-map desks (λ (d : Desk). d.set)

  within_sets : (desk : ℕ) → desk < length desks → desk < length (sets_of desks)
  within_sets desk lt = subst (λ n. desk < n) (sym counted) lt

  within_desks : (desk : ℕ) → desk < length (sets_of desks) → desk < length desks
  within_desks desk lt = subst (λ n. desk < n) counted lt

  -- ---- what is not there

  not_there : (step : Step) → ¬ (IsThere here step) → DoStep desks made step desks made NoSuch
  not_there step missing = record { done = (missing, refl); sites = refl }

  pub none_typed : (desk place ch : ℕ) (x : Desk) → (desk < length desks → place ≤ length (visible (get_or desks desk x).set) → ⊥) → DoStep desks made (Typed desk place ch) desks made NoSuch
  none_typed desk place ch x missing =
      not_there (Typed desk place ch)
      (λ there. let lt = within_desks desk there.0 in missing lt (subst (λ (s : OperationSet). place ≤ length (visible s)) (set_at-desk desks desk x lt) there.1))

  pub none_erased : (desk place : ℕ) (x : Desk) → (desk < length desks → place < length (visible (get_or desks desk x).set) → ⊥) → DoStep desks made (Erase desk place) desks made NoSuch
  none_erased desk place x missing =
      not_there (Erase desk place)
      (λ there. let lt = within_desks desk there.0 in missing lt (subst (λ (s : OperationSet). place < length (visible s)) (set_at-desk desks desk x lt) there.1))

  pub none_delivered : (desk op : ℕ) → (desk < length desks → op < length made → ⊥) → DoStep desks made (Deliver desk op) desks made NoSuch
  none_delivered desk op missing = not_there (Deliver desk op) (λ there. missing (within_desks desk there.0) there.1)

  pub none_merged : (desk from : ℕ) → (desk < length desks → from < length desks → ⊥) → DoStep desks made (Merge desk from) desks made NoSuch
  none_merged desk from missing = not_there (Merge desk from) (λ there. missing (within_desks desk there.0) (within_desks from there.1))

  -- ---- what is refused

  refused : (new : List Desk) (step : Step) (number : ℕ) (reply : Reply) → IsThere here step → IsRefusedAs here step number (world_of new made) → sites_of new ≡ sites_of desks → reply ≡ Refused number
      → DoStep desks made step new made reply
  refused new step number reply there how sites is = record {
    done = subst (λ (r : Reply). WorldStep (sites_of desks) here step r (world_of new made)) (sym is) (there, how);
    sites = sites;
  }

  -- ---- what a desk made is a step that is done, and what it refused to make one that is refused

  module _ (desk : ℕ) (x after : Desk) (within : desk < length desks) (site : after.site ≡ (get_or desks desk x).site) (place : ℕ) (more : List OpView) where
    abbrev own : Desk
    own = get_or desks desk x

    own_set : set_at (sets_of desks) desk ≡ own.set
    own_set = set_at-desk desks desk x within

    unchanged : after ≡ own → set desks desk after ≡ desks
    unchanged same = ap (set desks desk) same ∙ set-get_or desks desk x

    unmade : (step : Step) (number : ℕ) (reply : Reply) → after ≡ own → more ≡ made → reply ≡ Refused number → IsThere here step → IsRefusedAs here step number here → DoStep desks made step (set desks desk after) more reply
    unmade step number reply same none is there how =
        subst (λ (l : List OpView). DoStep desks made step (set desks desk after) l reply) (sym none)
        (subst (λ (l : List Desk). DoStep desks made step l made reply) (sym (unchanged same)) (refused desks step number reply there how refl is))

    pub typed_replied : {E : Type 0} (ch : ℕ) (r : Result Reply E) (answer : Result OpView TypeFault) → place ≤ length (visible own.set) → IfOk r (IsReplied answer made more)
        → IfOk answer (λ op. op ≡ insertion (typed own.set own.site place ch)) → IfOk answer IsWellFormed → OnOk answer ((fault : TypeFault) → ¬ (IsTypeRefusal own.set fault))
        → OnOk answer (after.set ≡ with_operation own.set (insertion (typed own.set own.site place ch))) → IfErr answer (IsTypeRefused own.set) → OnErr answer (after ≡ own)
        → IfOk r (DoStep desks made (Typed desk place ch) (set desks desk after) more)
    typed_replied ch (Err e) answer at told is formed accepted grown why same = tt
    typed_replied ch (Ok reply) (Ok op) at told is formed accepted grown why same =
        subst (λ (y : Reply). DoStep desks made (Typed desk place ch) (set desks desk after) more y) (sym told.0) (typed_done desks made desk x after within place ch op more at is formed accepted grown site told.1)
    typed_replied ch (Ok reply) (Err fault) at told is formed accepted grown why same =
        unmade (Typed desk place ch) (type_code fault) reply same told.2 told.0 (within_sets desk within, subst (λ (s : OperationSet). place ≤ length (visible s)) (sym own_set) at)
        (fault, subst (λ (s : OperationSet). IsTypeRefusal s fault) (sym own_set) (refusal_of _ fault told.1 why), refl, refl)

    pub erased_replied : {E : Type 0} (r : Result Reply E) (answer : Result OpView TypeFault) → place < length (visible own.set) → IfOk r (IsReplied answer made more)
        → IfOk answer (λ op. IsErasedAt own.set after.set place op) → OnOk answer (size own.set < 1_000_000) → IfErr answer (λ fault. (fault ≡ TypingFull) × (size own.set ≡ 1_000_000)) → OnErr answer (after ≡ own)
        → IfOk r (DoStep desks made (Erase desk place) (set desks desk after) more)
    erased_replied (Err e) answer at told erased room why same = tt
    erased_replied (Ok reply) (Ok op) at told erased room why same =
        subst (λ (y : Reply). DoStep desks made (Erase desk place) (set desks desk after) more y) (sym told.0) (erased_done desks made desk x after within place op more at erased room site told.1)
    erased_replied (Ok reply) (Err fault) at told erased room why same =
        unmade (Erase desk place) (type_code fault) reply same told.2 told.0 (within_sets desk within, subst (λ (s : OperationSet). place < length (visible s)) (sym own_set) at)
        (ap size own_set ∙ why.1, ap type_code why.0, refl)

  -- ---- an operation made before is taken, or refused

  module _ (desk op : ℕ) (own : OpView) (new : List Desk) (within : desk < length desks) (known : op < length made) (at : slice_get made op ≡ Some own) (sites : sites_of new ≡ sites_of desks) where
    pub delivered : sets_of new ≡ sets_after_step (sets_of desks) (takes desk own) → ((fault : TakeFault) → ¬ (IsStepRefused (sets_of desks) (takes desk own) fault)) → DoStep desks made (Deliver desk op) new made Done
    delivered ok accepted = record { done = ((within_sets desk within, known), (own, at, accepted, (λ i. record { sets = ok i; made = made }))); sites = sites }

    pub delivery_refused : {E : Type 0} (r : Result Reply E) (fault : TakeFault) → IfOk r (λ reply. (reply ≡ Refused (take_code fault)) × (fault ≢ Memory))
        → (fault ≡ Memory) ⊎ IsStepRefused (sets_of desks) (takes desk own) fault → new ≡ desks → IfOk r (DoStep desks made (Deliver desk op) new made)
    delivery_refused (Err e) fault told why same = tt
    delivery_refused (Ok reply) fault told (inl lack) same = absurd (told.1 lack)
    delivery_refused (Ok reply) fault told (inr why) same =
        refused new (Deliver desk op) (take_code fault) reply (within_sets desk within, known) (own, at, (fault, why, refl), ap (λ (l : List Desk). world_of l made) same) sites told.0

  -- ---- a desk meets another one, or refuses to

  module _ (desk from : ℕ) (new : List Desk) (within : desk < length desks) (other : from < length desks) (sites : sites_of new ≡ sites_of desks) where
    pub merged : sets_of new ≡ sets_after_step (sets_of desks) (merges desk from) → ((fault : TakeFault) → ¬ (IsStepRefused (sets_of desks) (merges desk from) fault)) → DoStep desks made (Merge desk from) new made Done
    merged ok accepted = record { done = ((within_sets desk within, within_sets from other), (accepted, (λ i. record { sets = ok i; made = made }))); sites = sites }

    pub merging_refused : {E : Type 0} (r : Result Reply E) (fault : TakeFault) → IfOk r (λ reply. (reply ≡ Refused (take_code fault)) × (fault ≢ Memory))
        → (fault ≡ Memory) ⊎ IsStepRefused (sets_of desks) (merges desk from) fault → LeavesMerged (sets_of desks) (sets_of new) desk from fault → IfOk r (DoStep desks made (Merge desk from) new made)
    merging_refused (Err e) fault told why left = tt
    merging_refused (Ok reply) fault told (inl lack) left = absurd (told.1 lack)
    merging_refused (Ok reply) fault told (inr why) left =
        refused new (Merge desk from) (take_code fault) reply (within_sets desk within, within_sets from other) ((fault, why, refl, left), refl) sites told.0
