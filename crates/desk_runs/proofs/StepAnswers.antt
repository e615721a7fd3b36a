-- What the answers of desks say of a step.
use Rattle.std.proofs.Common.{◌≡◌, ◌≤◌, ◌-◌, ℕ, Bool, List, ◌∷◌, Option, Some, length, get_or, Result, ◌⊎◌, refl, sym, ap, subst, ◌∙◌, arith, [], vec_len}
use Rattle.std.specs.Prelude.{OnOk, IfErr}
use Rattle.std.specs.Global.{Vec}
use Rattle.std.proofs.lemmas.List.{get_or-map}
use Rattle.std.proofs.lemmas.Option.{slice_get_read}
use Rattle.bg_types.specs.OperationSet.{OperationSet, no_operations}
use Rattle.bg_types.specs.declared.op.OpView.{OpView}
use Rattle.desk_replica.specs.declared.answer.TakeFault.{TakeFault}
use Rattle.desk_replica.specs.declared.answer.TakeFault.TheVariants.{Memory}
use Rattle.rga_tree.specs.TextOf.{text}
use Rattle.desk_replica.specs.Desk.{Desk}
use Rattle.desk_replica.specs.DeskSets.{DeskStep, sets_of, set_at, sets_after_step as sets_after_desk_step, IsStepRefused as IsDeskStepRefused}
use Rattle.desk_files.specs.declared.schedule.step.RunStep.{RunStep}
use Rattle.desk_files.specs.declared.schedule.step.RunStep.TheVariants.{Show}
use Rattle.desk_files.specs.Files.{lists_of}
use Rattle.desk_files.specs.Schedule.{file_at}
use Rattle.desk_files.specs.declared.run_fault.RunFault.{RunFault}
use Rattle.desk_runs.specs.declared.replaying.setting.Setting.{Setting}
use Rattle.desk_runs.specs.Setting.{print_in, files_in, IsStepsOutcomeIn}
use Rattle.desk_runs.specs.Shows.{IsShowOutcome}
use Rattle.desk_runs.specs.Steps.{at_line, operation_at, desk_step, sets_after_done, sets_after_step, IsDoneRefused, IsStepRefused}
use Rattle.desk_runs.proofs.Running.{shown_is}

pub file_there : (files : List (Vec OpView)) (file : ℕ) (v : Vec OpView) → 1 ≤ file → file ≤ length files → file_at (lists_of files) file ≡ (get_or files (file - 1) v).items
file_there files file v some within = get_or-map (λ (f : Vec OpView). f.items) files (file - 1) v [] (omega (arith, some, within))

-- as many operations as the file has were counted
pub count_there : (files : List (Vec OpView)) (file n : ℕ) (v : Vec OpView) → 1 ≤ file → file ≤ length files → n ≡ vec_len (get_or files (file - 1) v) → n ≡ length (file_at (lists_of files) file)
count_there files file n v some within len =
    let there = ap (λ (ops : List OpView). length ops) (file_there files file v some within) in
    let counted = (get_or files (file - 1) v).ok in
    omega (arith, there, len, counted)

-- an operation that was read from a file
pub operation_there : (files : List (Vec OpView)) (file op : ℕ) (v : Vec OpView) (x : OpView) → 1 ≤ file → file ≤ length files → 1 ≤ op → op ≤ length (file_at (lists_of files) file)
    → x ≡ get_or (get_or files (file - 1) v).items (op - 1) x → operation_at (lists_of files) file op ≡ Some x
operation_there files file op v x some within one most is =
    let there = file_there files file v some within in
    slice_get_read (file_at (lists_of files) file) (length (file_at (lists_of files) file)) (op - 1) x refl (omega (arith, one, most)) (is ∙ ap (λ l. get_or l (op - 1) x) (sym there))

-- a desk answered to what a step of the run does
module _ {T : Type 0} (files : List (List OpView)) (sets after : List OperationSet) (r : Result T TakeFault) (step : RunStep) (done : DeskStep) (is : desk_step files step ≡ Some done) where
  pub done-ok : OnOk r (after ≡ sets_after_desk_step sets done) → OnOk r (after ≡ sets_after_step files sets step)
  done-ok h = subst (λ o. OnOk r (after ≡ sets_after_done sets o)) (sym is) h

  pub done-accepted : OnOk r ((fault : TakeFault) → ¬ (IsDeskStepRefused sets done fault)) → OnOk r ((fault : TakeFault) → ¬ (IsStepRefused files sets step fault))
  done-accepted h = subst (λ o. OnOk r ((fault : TakeFault) → ¬ (IsDoneRefused sets o fault))) (sym is) h

  pub done-fault : IfErr r (λ fault. (fault ≡ Memory) ⊎ IsDeskStepRefused sets done fault) → IfErr r (λ fault. (fault ≡ Memory) ⊎ IsStepRefused files sets step fault)
  done-fault h = subst (λ o. IfErr r (λ fault. (fault ≡ Memory) ⊎ IsDoneRefused sets o fault)) (sym is) h

-- a show is never refused
show_accepted : (files : List (List OpView)) (sets : List OperationSet) (step : RunStep) (desk : ℕ) → step ≡ Show desk → (fault : TakeFault) → ¬ (IsStepRefused files sets step fault)
show_accepted files sets step desk is fault h = subst (λ (s : RunStep). IsStepRefused files sets s fault) is h

-- a desk's text was shown, at the step of a line
pub desk_shown : (setting : Setting) (desks : List Desk) (line desk : ℕ) (d : Desk) (old new : Option (List ℕ)) (failed : Bool) (r : Result (Unit {0}) RunFault) → 1 ≤ desk → desk ≤ length desks
    → IsShowOutcome (print_in setting (text (get_or desks (desk - 1) d).set)) old new failed r → IsStepsOutcomeIn setting desks (at_line line (Show desk) ∷ []) desks old new failed r
desk_shown setting desks line desk d old new failed r some within h =
    let print = print_in setting in
    let files = files_in setting in
    let sets = sets_of desks in
    let here : set_at sets (desk - 1) ≡ (get_or desks (desk - 1) d).set = get_or-map (λ (x : Desk). x.set) desks (desk - 1) d no_operations (omega (arith, some, within)) in
    shown_is print files sets (at_line line (Show desk)) old new failed (print (text (get_or desks (desk - 1) d).set)) r (show_accepted files sets (Show desk) desk refl) refl
    (ap (λ (s : OperationSet). print (text s)) (sym here)) h
