-- What a list that was empty has grown by is all that it has.
use Rattle.std.proofs.Common.{◌≡◌, inl, inr, ℕ, List, [], length, drop, subst}
use Rattle.bg_types.specs.Edit.{IsEdit}
use Rattle.bg_types.specs.OperationSet.{OperationSet}
use Rattle.bg_types.specs.declared.change.Change.{Change}
use Rattle.bg_types.specs.declared.op.OpView.{OpView}
use Rattle.desk_replica.specs.Telling.{IsTold}
use Rattle.desk_replica.specs.Taking.{AreTold}
use Rattle.live_document.specs.Cost.{KeepsUnchanged, KeepsUntouched}
use Rattle.live_document.specs.Documents.{LiveDocument}

pub all_told : (s : OperationSet) (ops : List OpView) (old new : List Change) → old ≡ [] → AreTold s ops old new → AreTold s ops [] new
all_told s ops old new none told = subst (λ (changes : List Change). AreTold s ops changes new) none told

pub told_once : (s t : OperationSet) (old new : List Change) → old ≡ [] → IsTold s t old new → IsTold s t [] new
told_once s t old new none told = subst (λ (changes : List Change). IsTold s t changes new) none told

pub all_edits : (before after : List ℕ) (old new : List Change) → old ≡ [] → IsEdit before (drop (length old) new) after → IsEdit before new after
all_edits before after old new none edit = subst (λ (changes : List Change). IsEdit before (drop (length changes) new) after) none edit

pub all_kept : (before after : LiveDocument) (old new : List Change) → old ≡ [] → KeepsUnchanged before after (drop (length old) new) → KeepsUnchanged before after new
all_kept before after old new none kept = subst (λ (changes : List Change). KeepsUnchanged before after (drop (length changes) new)) none kept

pub untouched_once : (before after : LiveDocument) (old new : List Change) → old ≡ [] → IsTold before.desk.set after.desk.set old new
    → KeepsUnchanged before after (drop (length old) new) → KeepsUntouched before after
untouched_once before after old new none told kept =
    elim (all_kept before after old new none kept) [
      | inl behind ↦ inl behind
      | inr touched ↦ inr (new, told_once before.desk.set after.desk.set old new none told, touched)
    ]
