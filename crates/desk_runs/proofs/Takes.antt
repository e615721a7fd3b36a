-- Takes that are done one after the other: they write nothing.
use Rattle.std.proofs.Common.{◌≡◌, ℕ, List, [], ◌++◌, Option, Result, Ok, Err, refl, subst}
use Rattle.std.specs.Prelude.{false, IsErrAnd}
use Rattle.desk_replica.specs.Desk.{Desk}
use Rattle.desk_replica.specs.DeskSets.{sets_of}
use Rattle.desk_files.specs.declared.run_fault.RunFault.{RunFault}
use Rattle.desk_files.specs.declared.schedule.step.Numbered.{Numbered}
use Rattle.desk_runs.specs.declared.replaying.setting.Setting.{Setting}
use Rattle.desk_runs.specs.Setting.{print_in, files_in, IsSilentOutcomeIn}
use Rattle.desk_runs.specs.Shows.{Ran}
use Rattle.desk_runs.proofs.Running.{IsBeginning, ran_nothing, ran_then, ended_early}

-- a run has done these takes, whatever was written before
pub record HasTaken (setting : Setting) (first : List Desk) (steps : List Numbered) (desks : List Desk) : Type 0 where
  pub ran : (written : Option (List ℕ)) → Ran (print_in setting) (files_in setting) (sets_of first) steps (sets_of desks) written written

pub taken_nothing : (setting : Setting) (desks : List Desk) → HasTaken setting desks [] desks
taken_nothing setting desks = record { ran = λ written. ran_nothing (print_in setting) (files_in setting) (sets_of desks) written }

-- more takes are done
pub takes_done : {setting : Setting} {first : List Desk} {xs ys : List Numbered} {desks after : List Desk} (more : List Numbered) (done : Unit {0}) → HasTaken setting first xs desks → xs ++ more ≡ ys
    → IsSilentOutcomeIn setting desks more after (Ok done) → HasTaken setting first ys after
takes_done {setting} {first} {xs} {ys} {desks} {after} more done h next outcome = record {
  ran = λ written. subst (λ steps. Ran (print_in setting) (files_in setting) (sets_of first) steps (sets_of after) written written) next
      (ran_then (print_in setting) (files_in setting) (sets_of first) (sets_of desks) xs written written (h.ran written) more (sets_of after) written (outcome written).1);
}

-- more takes ended early, and so all that would have followed
pub takes_ended : {setting : Setting} {first : List Desk} {xs ys all : List Numbered} {desks : List Desk} (more : List Numbered) → HasTaken setting first xs desks → xs ++ more ≡ ys → IsBeginning ys all
    → (after last : List Desk) (r : Result (Unit {0}) RunFault) (fault : RunFault) → IsErrAnd r (λ e. e ≡ fault) → IsSilentOutcomeIn setting desks more after (Err fault) → IsSilentOutcomeIn setting first all last r
takes_ended {setting} {first} {xs} {ys} {all} {desks} more h next begins after last r fault handed outcome = λ written.
    ended_early setting first desks last more written written written false r fault (h.ran written) next begins handed (outcome written)

-- all takes are done
pub takes_all : {setting : Setting} {first : List Desk} {xs ys : List Numbered} {desks : List Desk} (done : Unit {0}) → HasTaken setting first xs desks → xs ≡ ys → IsSilentOutcomeIn setting first ys desks (Ok done)
takes_all {setting} {first} {xs} {ys} {desks} done h is = λ written.
    (refl, subst (λ steps. Ran (print_in setting) (files_in setting) (sets_of first) steps (sets_of desks) written written) is (h.ran written))
