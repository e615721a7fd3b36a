-- Steps that are done one after the other, and what ends them.
use Rattle.std.proofs.Common.{◌≡◌, ℕ, zero, suc, ◌+◌, ◌<◌, arith, get_or, drop, List, [], ◌∷◌, ◌++◌, length, inl, inr, Option, Result, Ok, Err, ◌⊎◌, refl, sym, ap, subst, ◌∙◌, append_assoc}
use Rattle.std.specs.Prelude.{Bool, false, OnOk, IfErr, IsErrAnd, take}
use Rattle.std.proofs.lemmas.List.{append-nil}
use Rattle.std.proofs.Math.Seq.{take-append-add}
use Rattle.std.specs.Io.KnownBytes.{Appends}
use Rattle.std.proofs.KnownBytes.{Appends-nil, Appends-trans}
use Rattle.bg_types.specs.OperationSet.{OperationSet}
use Rattle.bg_types.specs.Sink.{AppendsBeginning}
use Rattle.bg_types.specs.declared.op.OpView.{OpView}
use Rattle.desk_replica.specs.declared.answer.TakeFault.{TakeFault}
use Rattle.desk_replica.specs.declared.answer.TakeFault.TheVariants.{IdentifierReused, Full, Memory}
use Rattle.desk_files.specs.declared.run_fault.RunFault.{RunFault}
use Rattle.desk_files.specs.declared.run_fault.RunFault.TheVariants as run
use Rattle.desk_files.specs.declared.schedule.step.Numbered.{Numbered}
use Rattle.desk_runs.specs.Steps.{sets_after_step, sets_after, IsStepRefused, NoneRefused, desk_of}
use Rattle.desk_runs.specs.Shows.{shown, shows, Ran, IsStepsEnd, IsStepsOutcome, IsShowOutcome}
use Rattle.desk_runs.specs.Cause.{answer_of}
use Rattle.ucd_files.specs.Tables.{TableValues}
use Rattle.view_cache.specs.Drawings.{KeptView}
use Rattle.desk_replica.specs.Desk.{Desk}
use Rattle.desk_replica.specs.DeskSets.{sets_of}
use Rattle.desk_runs.specs.declared.replaying.setting.Setting.{Setting}
use Rattle.desk_runs.specs.Setting.{print_in, files_in, IsStepsOutcomeIn}
use Rattle.desk_files.proofs.Interface.{answer_handed, take-push, split-at}

module _ (print : List ℕ → List ℕ) (files : List (List OpView)) where
  -- ---- steps after steps

  sets_after-append : (sets : List OperationSet) (xs ys : List Numbered) → sets_after files sets (xs ++ ys) ≡ sets_after files (sets_after files sets xs) ys
  sets_after-append sets [] ys = refl
  sets_after-append sets (x ∷ xs) ys = sets_after-append (sets_after_step files sets x.step) xs ys

  none-append : (sets : List OperationSet) (xs ys : List Numbered) → NoneRefused files sets xs → NoneRefused files (sets_after files sets xs) ys → NoneRefused files sets (xs ++ ys)
  none-append sets [] ys a b = b
  none-append sets (x ∷ xs) ys a b = (a.0, none-append (sets_after_step files sets x.step) xs ys a.1 b)

  shows-append : (sets : List OperationSet) (xs ys : List Numbered) → shows print files sets (xs ++ ys) ≡ shows print files sets xs ++ shows print files (sets_after files sets xs) ys
  shows-append sets [] ys = refl
  shows-append sets (x ∷ xs) ys =
      let next = sets_after_step files sets x.step in
      ap (λ (l : List ℕ). shown print sets x.step ++ l) (shows-append next xs ys) ∙ sym (append_assoc (shown print sets x.step) (shows print files next xs) (shows print files (sets_after files next xs) ys))

  pub ran_nothing : (sets : List OperationSet) (old : Option (List ℕ)) → Ran print files sets [] sets old old
  ran_nothing sets old = record { none_refused = tt; sets_are = refl; written = Appends-nil old }

  module _ (sets after : List OperationSet) (xs : List Numbered) (old mid : Option (List ℕ)) (first : Ran print files sets xs after old mid) where
    moved : (ys : List Numbered) → NoneRefused files after ys → NoneRefused files sets (xs ++ ys)
    moved ys h = none-append sets xs ys first.none_refused (subst (λ (s : List OperationSet). NoneRefused files s ys) first.sets_are h)

    both : (ys : List Numbered) → shows print files sets xs ++ shows print files after ys ≡ shows print files sets (xs ++ ys)
    both ys = ap (λ (s : List OperationSet). shows print files sets xs ++ shows print files s ys) first.sets_are ∙ sym (shows-append sets xs ys)

    pub ran_then : (ys : List Numbered) (last : List OperationSet) (new : Option (List ℕ)) → Ran print files after ys last mid new → Ran print files sets (xs ++ ys) last old new
    ran_then ys last new h = record {
      none_refused = moved ys h.none_refused;
      sets_are = h.sets_are ∙ ap (λ (s : List OperationSet). sets_after files s ys) first.sets_are ∙ sym (sets_after-append sets xs ys);
      written = subst (Appends old new) (both ys) (Appends-trans old mid new (shows print files sets xs) (shows print files after ys) first.written h.written);
    }

    -- a beginning of what follows is a beginning of all
    beginning_then : (ys : List Numbered) (new : Option (List ℕ)) → AppendsBeginning mid new (shows print files after ys) → AppendsBeginning old new (shows print files sets (xs ++ ys))
    beginning_then ys new h =
        let n = length (shows print files sets xs) + h.0 in
        (n, subst (Appends old new) (sym (take-append-add (shows print files sets xs) (shows print files after ys) h.0) ∙ ap (take n) (both ys)) (Appends-trans old mid new (shows print files sets xs) (take h.0 (shows print files after ys)) first.written h.1))

    pub end_then : (ys : List Numbered) (new : Option (List ℕ)) (failed : Bool) (fault : RunFault) → IsStepsEnd print files after ys mid new failed fault → IsStepsEnd print files sets (xs ++ ys) old new failed fault
    end_then ys new failed (run.Tables fault) h = h
    end_then ys new failed (run.File n fault) h = h
    end_then ys new failed (run.Schedule line fault) h = h
    end_then ys new failed (run.Step line desk fault) h =
        let at = h.1.first in (
          h.0,
          record {
            first = record {
              before = xs ++ at.before;
              at = at.at;
              later = at.later;
              in_order = ap (λ (l : List Numbered). xs ++ l) at.in_order ∙ sym (append_assoc xs at.before (at.at ∷ at.later));
              line_is = at.line_is;
              desk_is = at.desk_is;
              none_refused = moved at.before at.none_refused;
              refused = subst (λ (s : List OperationSet). IsStepRefused files s at.at.step fault)
                  (ap (λ (s : List OperationSet). sets_after files s at.before) first.sets_are ∙ sym (sets_after-append sets xs at.before)) at.refused;
            };
            written = subst (Appends old new) (both at.before) (Appends-trans old mid new (shows print files sets xs) (shows print files after at.before) first.written h.1.written);
          },
        )
    end_then ys new failed (run.Listing line fault) h = h
    end_then ys new failed run.Device h = (
      h.0,
      record {
        before = xs ++ h.1.before;
        later = h.1.later;
        in_order = ap (λ (l : List Numbered). xs ++ l) h.1.in_order ∙ sym (append_assoc xs h.1.before h.1.later);
        none_refused = moved h.1.before h.1.none_refused;
        written = beginning_then h.1.before new h.1.written;
      },
    )
    end_then ys new failed (run.PastEnd place) h = h
    end_then ys new failed (run.ReadFailed file) h = h
    end_then ys new failed (run.TooLong file) h = h
    end_then ys new failed run.Memory h = (
      h.0,
      record {
        before = xs ++ h.1.before;
        later = h.1.later;
        in_order = ap (λ (l : List Numbered). xs ++ l) h.1.in_order ∙ sym (append_assoc xs h.1.before h.1.later);
        none_refused = moved h.1.before h.1.none_refused;
        written = subst (Appends old new) (both h.1.before) (Appends-trans old mid new (shows print files sets xs) (shows print files after h.1.before) first.written h.1.written);
      },
    )

    -- the outcome of what follows is that of all
    pub outcome_then : (ys : List Numbered) (last : List OperationSet) (new : Option (List ℕ)) (failed : Bool) (r : Result (Unit {0}) RunFault) → IsStepsOutcome print files after ys last mid new failed r
        → IsStepsOutcome print files sets (xs ++ ys) last old new failed r
    outcome_then ys last new failed (Ok done) h = (h.0, ran_then ys last new h.1)
    outcome_then ys last new failed (Err fault) h = end_then ys new failed fault h

  -- steps that ended early stay so where more would have followed
  pub end_before : (sets : List OperationSet) (xs ys : List Numbered) (old new : Option (List ℕ)) (failed : Bool) (fault : RunFault) → IsStepsEnd print files sets xs old new failed fault
      → IsStepsEnd print files sets (xs ++ ys) old new failed fault
  end_before sets xs ys old new failed (run.Tables fault) h = h
  end_before sets xs ys old new failed (run.File n fault) h = h
  end_before sets xs ys old new failed (run.Schedule line fault) h = h
  end_before sets xs ys old new failed (run.Step line desk fault) h =
      let at = h.1.first in (
        h.0,
        record {
          first = record {
            before = at.before;
            at = at.at;
            later = at.later ++ ys;
            in_order = ap (λ (l : List Numbered). l ++ ys) at.in_order ∙ append_assoc at.before (at.at ∷ at.later) ys;
            line_is = at.line_is;
            desk_is = at.desk_is;
            none_refused = at.none_refused;
            refused = at.refused;
          };
          written = h.1.written;
        },
      )
  end_before sets xs ys old new failed (run.Listing line fault) h = h
  end_before sets xs ys old new failed run.Device h = (
    h.0,
    record {
      before = h.1.before;
      later = h.1.later ++ ys;
      in_order = ap (λ (l : List Numbered). l ++ ys) h.1.in_order ∙ append_assoc h.1.before h.1.later ys;
      none_refused = h.1.none_refused;
      written = h.1.written;
    },
  )
  end_before sets xs ys old new failed (run.PastEnd place) h = h
  end_before sets xs ys old new failed (run.ReadFailed file) h = h
  end_before sets xs ys old new failed (run.TooLong file) h = h
  end_before sets xs ys old new failed run.Memory h = (
    h.0,
    record {
      before = h.1.before;
      later = h.1.later ++ ys;
      in_order = ap (λ (l : List Numbered). l ++ ys) h.1.in_order ∙ append_assoc h.1.before h.1.later ys;
      none_refused = h.1.none_refused;
      written = h.1.written;
    },
  )

  -- ---- one step

  module _ (sets after : List OperationSet) (at : Numbered) where
    one_ran : (old new : Option (List ℕ)) → ((fault : TakeFault) → ¬ (IsStepRefused files sets at.step fault)) → after ≡ sets_after_step files sets at.step
        → Appends old new (shown print sets at.step) → Ran print files sets (at ∷ []) after old new
    one_ran old new accepted is written = record { none_refused = (accepted, tt); sets_are = is; written = subst (Appends old new) (sym (append-nil (shown print sets at.step))) written }

    one_refused : (old : Option (List ℕ)) (failed : Bool) (desk : ℕ) (fault : TakeFault) → failed ≡ false → desk ≡ desk_of at.step → IsStepRefused files sets at.step fault
        → IsStepsEnd print files sets (at ∷ []) old old failed (run.Step at.line desk fault)
    one_refused old failed desk fault working desk_is refused = (
      working,
      record {
        first = record { before = []; at = at; later = []; in_order = refl; line_is = refl; desk_is = desk_is; none_refused = tt; refused = refused };
        written = Appends-nil old;
      },
    )

    nothing_done : (old : Option (List ℕ)) (failed : Bool) → failed ≡ false → IsStepsEnd print files sets (at ∷ []) old old failed run.Memory
    nothing_done old failed working = (working, record { before = []; later = at ∷ []; in_order = refl; none_refused = tt; written = Appends-nil old })

    -- what a desk answered to a step that writes nothing
    pub answered : {T : Type 0} (old : Option (List ℕ)) (failed : Bool) (desk : ℕ) (r : Result T TakeFault) → failed ≡ false → desk ≡ desk_of at.step → shown print sets at.step ≡ []
        → OnOk r (after ≡ sets_after_step files sets at.step) → OnOk r ((fault : TakeFault) → ¬ (IsStepRefused files sets at.step fault))
        → IfErr r (λ fault. (fault ≡ Memory) ⊎ IsStepRefused files sets at.step fault)
        → IsStepsOutcome print files sets (at ∷ []) after old old failed (answer_of at.line desk r)
    answered old failed desk (Ok done) working desk_is silent is accepted h = (working, one_ran old old accepted is (subst (Appends old old) (sym silent) (Appends-nil old)))
    answered old failed desk (Err IdentifierReused) working desk_is silent is accepted h =
        elim h [ inl memory ↦ absurd cc | inr refused ↦ one_refused old failed desk IdentifierReused working desk_is refused ]
    answered old failed desk (Err Full) working desk_is silent is accepted h = elim h [ inl memory ↦ absurd cc | inr refused ↦ one_refused old failed desk Full working desk_is refused ]
    answered old failed desk (Err Memory) working desk_is silent is accepted h = nothing_done old failed working

  -- what a show did
  pub shown_is : (sets : List OperationSet) (at : Numbered) (old new : Option (List ℕ)) (failed : Bool) (bytes : List ℕ) (r : Result (Unit {0}) RunFault) → ((fault : TakeFault) → ¬ (IsStepRefused files sets at.step fault))
      → sets ≡ sets_after_step files sets at.step → bytes ≡ shown print sets at.step → IsShowOutcome bytes old new failed r → IsStepsOutcome print files sets (at ∷ []) sets old new failed r
  shown_is sets at old new failed bytes (Ok done) accepted same is h = (h.0, one_ran sets sets at old new accepted same (subst (Appends old new) is h.1))
  shown_is sets at old new failed bytes (Err (run.Tables fault)) accepted same is h = h
  shown_is sets at old new failed bytes (Err (run.File n fault)) accepted same is h = h
  shown_is sets at old new failed bytes (Err (run.Schedule line fault)) accepted same is h = h
  shown_is sets at old new failed bytes (Err (run.Step line desk fault)) accepted same is h = absurd h
  shown_is sets at old new failed bytes (Err (run.Listing line fault)) accepted same is h = h
  shown_is sets at old new failed bytes (Err run.Device) accepted same is h = (
    h.0,
    record {
      before = at ∷ [];
      later = [];
      in_order = refl;
      none_refused = (accepted, tt);
      written = subst (AppendsBeginning old new) (is ∙ sym (append-nil (shown print sets at.step))) h.1;
    },
  )
  shown_is sets at old new failed bytes (Err (run.PastEnd place)) accepted same is h = h
  shown_is sets at old new failed bytes (Err (run.ReadFailed file)) accepted same is h = h
  shown_is sets at old new failed bytes (Err (run.TooLong file)) accepted same is h = h
  shown_is sets at old new failed bytes (Err run.Memory) accepted same is h = (h.0, record { before = []; later = at ∷ []; in_order = refl; none_refused = tt; written = h.1 })

-- ---- a run of many steps

-- the steps are these and others after them
pub record IsBeginning (xs ys : List Numbered) : Type 0 where
  pub rest : List Numbered
  pub is : xs ++ rest ≡ ys

-- a run has done these steps, and may go on
pub record HasDone (setting : Setting) (first : List Desk) (steps : List Numbered) (view : KeptView) (desks : List Desk) (old now : Option (List ℕ)) (failed : Bool) : Type 0 where
  pub ran : Ran (print_in setting) (files_in setting) (sets_of first) steps (sets_of desks) old now
  pub tables : view.tables ≡ setting.tables.now
  pub working : failed ≡ false

-- the tables are those of before
pub kept_tables : {new mid old tables : TableValues} → new ≡ mid → mid ≡ tables → old ≡ tables → new ≡ old
kept_tables same is was = same ∙ is ∙ sym was

-- the same steps, said in another way
pub done_too : {setting : Setting} {first : List Desk} {xs ys : List Numbered} {view : KeptView} {desks : List Desk} {old now : Option (List ℕ)} {failed : Bool}
    → HasDone setting first xs view desks old now failed → xs ≡ ys → HasDone setting first ys view desks old now failed
done_too {setting} {first} {xs} {ys} {view} {desks} {old} {now} {failed} h is = subst (λ steps. HasDone setting first steps view desks old now failed) is h

-- more steps are done
pub steps_done : {setting : Setting} {first : List Desk} {xs ys : List Numbered} {view next_view : KeptView} {desks after : List Desk} {old now new : Option (List ℕ)} {failed new_failed : Bool} (more : List Numbered) (done : Unit {0})
    → HasDone setting first xs view desks old now failed → xs ++ more ≡ ys → IsStepsOutcomeIn setting desks more after now new new_failed (Ok done) → next_view.tables ≡ view.tables
    → HasDone setting first ys next_view after old new new_failed
steps_done {setting} {first} {xs} {ys} {view} {next_view} {desks} {after} {old} {now} {new} {failed} {new_failed} more done h next outcome kept = record {
  ran = subst (λ steps. Ran (print_in setting) (files_in setting) (sets_of first) steps (sets_of after) old new) next
      (ran_then (print_in setting) (files_in setting) (sets_of first) (sets_of desks) xs old now h.ran more (sets_of after) new outcome.1);
  tables = kept ∙ h.tables;
  working = outcome.0;
}

-- more steps ended early, and so all that would have followed
pub ended_early : (setting : Setting) (first desks last : List Desk) {xs ys all : List Numbered} (more : List Numbered) (old now new : Option (List ℕ)) (failed : Bool) (r : Result (Unit {0}) RunFault) (fault : RunFault)
    → Ran (print_in setting) (files_in setting) (sets_of first) xs (sets_of desks) old now → xs ++ more ≡ ys → IsBeginning ys all → IsErrAnd r (λ e. e ≡ fault)
    → IsStepsEnd (print_in setting) (files_in setting) (sets_of desks) more now new failed fault → IsStepsOutcomeIn setting first all last old new failed r
ended_early setting first desks last {xs} {ys} {all} more old now new failed r fault ran next begins handed end =
    answer_handed (IsStepsOutcomeIn setting first all last old new failed) r fault handed
    (subst (λ steps. IsStepsEnd (print_in setting) (files_in setting) (sets_of first) steps old new failed fault) (ap (λ steps. steps ++ begins.rest) next ∙ begins.is)
    (end_before (print_in setting) (files_in setting) (sets_of first) (xs ++ more) begins.rest old new failed fault
    (end_then (print_in setting) (files_in setting) (sets_of first) (sets_of desks) xs old now ran more new failed fault end)))

pub steps_ended : {setting : Setting} {first : List Desk} {xs ys all : List Numbered} {view : KeptView} {desks : List Desk} {old now : Option (List ℕ)} {failed : Bool} (more : List Numbered) → HasDone setting first xs view desks old now failed
    → xs ++ more ≡ ys → IsBeginning ys all → (after last : List Desk) (new : Option (List ℕ)) (new_failed : Bool) (r : Result (Unit {0}) RunFault) (fault : RunFault) → IsErrAnd r (λ e. e ≡ fault)
    → IsStepsOutcomeIn setting desks more after now new new_failed (Err fault) → IsStepsOutcomeIn setting first all last old new new_failed r
steps_ended {setting} {first} {xs} {ys} {all} {view} {desks} {old} {now} {failed} more h next begins after last new new_failed r fault handed outcome =
    ended_early setting first desks last more old now new new_failed r fault h.ran next begins handed outcome

-- ---- a list of steps, gone through one by one

default_free : {A : Type 0} (xs : List A) (i : ℕ) (d e : A) → i < length xs → get_or xs i d ≡ get_or xs i e
default_free [] i d e lt = absurd (omega arith)
default_free (x ∷ xs) zero d e lt = refl
default_free (x ∷ xs) (suc i) d e lt = default_free xs i d e (omega (arith, lt))

module _ (steps : List Numbered) (i : ℕ) (d : Numbered) (lt : i < length steps) where
  pub step-next : take i steps ++ get_or steps i d ∷ [] ≡ take (i + 1) steps
  step-next = sym (take-push steps i (get_or steps i d) lt (default_free steps i d (get_or steps i d) lt))

  pub step-begins : IsBeginning (take (i + 1) steps) steps
  step-begins = record {
    rest = drop (i + 1) steps;
    is = ap (λ l. l ++ drop (i + 1) steps) (sym step-next) ∙ append_assoc (take i steps) (get_or steps i d ∷ []) (drop (i + 1) steps)
        ∙ sym (split-at steps i (get_or steps i d) lt (default_free steps i d (get_or steps i d) lt));
  }
