-- Of the steps of a run one is the first refused one, or none is.
use Rattle.std.proofs.Common.{◌≡◌, ℕ, List, [], ◌∷◌, ◌++◌, Option, Some, None, sym, ap, subst, ◌∙◌}
use Rattle.bg_types.specs.OperationSet.{OperationSet}
use Rattle.bg_types.specs.declared.op.OpView.{OpView}
use Rattle.desk_replica.specs.declared.answer.TakeFault.{TakeFault}
use Rattle.desk_replica.specs.Reply.{IsRefusal}
use Rattle.desk_replica.specs.Merging.{IsMergeRefusal}
use Rattle.desk_replica.specs.DeskSets.{DeskStep, takes, merges, set_at, IsStepRefused as IsDeskStepRefused}
use Rattle.desk_files.specs.declared.schedule.step.RunStep.{RunStep}
use Rattle.desk_files.specs.declared.schedule.step.Numbered.{Numbered}
use Rattle.desk_runs.specs.Steps.{desk_step, sets_after_step, sets_after, IsDoneRefused, IsStepRefused, NoneRefused, FirstRefused, desk_of}

-- what the law of refusals says
pub record RefusalLaws : Type 0 where
  pub alike : (s : OperationSet) (op : OpView) (f g : TakeFault) → IsRefusal s op f → IsRefusal s op g → f ≡ g
  pub merges : (s t : OperationSet) (f g : TakeFault) → IsMergeRefusal s t f → IsMergeRefusal s t g → f ≡ g

module _ (laws : RefusalLaws) where
  same_desk_step : (sets : List OperationSet) (done : DeskStep) (f g : TakeFault) → IsDeskStepRefused sets done f → IsDeskStepRefused sets done g → f ≡ g
  same_desk_step sets (takes desk op) f g a b = laws.alike (set_at sets desk) op f g a b
  same_desk_step sets (merges desk from) f g a b = laws.merges (set_at sets desk) (set_at sets from) f g a b

  same_done : (sets : List OperationSet) (done : Option DeskStep) (f g : TakeFault) → IsDoneRefused sets done f → IsDoneRefused sets done g → f ≡ g
  same_done sets None f g a b = absurd a
  same_done sets (Some done) f g a b = same_desk_step sets done f g a b

  same_step : (files : List (List OpView)) (sets : List OperationSet) (step : RunStep) (f g : TakeFault) → IsStepRefused files sets step f → IsStepRefused files sets step g → f ≡ g
  same_step files sets step f g a b = same_done sets (desk_step files step) f g a b

none_in : (files : List (List OpView)) (sets : List OperationSet) (before later : List Numbered) (at : Numbered) (fault : TakeFault) → NoneRefused files sets (before ++ at ∷ later)
    → IsStepRefused files (sets_after files sets before) at.step fault → ⊥
none_in files sets [] later at fault none refused = none.0 fault refused
none_in files sets (x ∷ before) later at fault none refused = none_in files (sets_after_step files sets x.step) before later at fault none.1 refused

pub refused_apart : (files : List (List OpView)) (sets : List OperationSet) (steps : List Numbered) (line desk : ℕ) (fault : TakeFault) → NoneRefused files sets steps → FirstRefused files sets steps line desk fault → ⊥
refused_apart files sets steps line desk fault none h = none_in files sets h.before h.later h.at fault (subst (NoneRefused files sets) h.in_order none) h.refused

-- the same step, and so the same line, desk and fault
record AreOne (a b : Numbered) (f g : TakeFault) : Type 0 where
  step : a ≡ b
  fault : f ≡ g

one_first : (laws : RefusalLaws) (files : List (List OpView)) (sets : List OperationSet) (before before' later later' : List Numbered) (at at' : Numbered) (f g : TakeFault) → before ++ at ∷ later ≡ before' ++ at' ∷ later'
    → NoneRefused files sets before → NoneRefused files sets before' → IsStepRefused files (sets_after files sets before) at.step f → IsStepRefused files (sets_after files sets before') at'.step g → AreOne at at' f g
one_first laws files sets [] [] later later' at at' f g e none none' a b =
    let same : at ≡ at' = cc in
    record { step = same; fault = same_step laws files sets at.step f g a (subst (λ (s : Numbered). IsStepRefused files sets s.step g) (sym same) b) }
one_first laws files sets [] (x ∷ before') later later' at at' f g e none none' a b =
    let same : at ≡ x = cc in absurd (none'.0 f (subst (λ (s : Numbered). IsStepRefused files sets s.step f) same a))
one_first laws files sets (x ∷ before) [] later later' at at' f g e none none' a b =
    let same : at' ≡ x = cc in absurd (none.0 g (subst (λ (s : Numbered). IsStepRefused files sets s.step g) same b))
one_first laws files sets (x ∷ before) (y ∷ before') later later' at at' f g e none none' a b =
    let same : y ≡ x = cc in
    let rest : before ++ at ∷ later ≡ before' ++ at' ∷ later' = cc in
    one_first laws files (sets_after_step files sets x.step) before before' later later' at at' f g rest none.1
    (subst (λ (s : Numbered). NoneRefused files (sets_after_step files sets s.step) before') same none'.1) a
    (subst (λ (s : Numbered). IsStepRefused files (sets_after files (sets_after_step files sets s.step) before') at'.step g) same b)

pub one_refusal : (laws : RefusalLaws) (files : List (List OpView)) (sets : List OperationSet) (steps : List Numbered) (line line' desk desk' : ℕ) (f g : TakeFault) → FirstRefused files sets steps line desk f → FirstRefused files sets steps line' desk' g
    → (line ≡ line') × (desk ≡ desk') × (f ≡ g)
one_refusal laws files sets steps line line' desk desk' f g a b =
    let one = one_first laws files sets a.before b.before a.later b.later a.at b.at f g (sym a.in_order ∙ b.in_order) a.none_refused b.none_refused a.refused b.refused in
    (a.line_is ∙ ap (λ (s : Numbered). s.line) one.step ∙ sym b.line_is, a.desk_is ∙ ap (λ (s : Numbered). desk_of s.step) one.step ∙ sym b.desk_is, one.fault)
