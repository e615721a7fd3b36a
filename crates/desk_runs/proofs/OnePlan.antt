-- A run has one plan, or its schedule has one first faulty line.
use Rattle.std.proofs.Common.{◌≡◌, ℕ, List, Option, Some, None, sym, ◌∙◌}
use Rattle.bg_types.specs.declared.op.OpView.{OpView}
use Rattle.desk_files.specs.declared.schedule_fault.ScheduleFault.{ScheduleFault}
use Rattle.desk_files.specs.declared.schedule.step.Numbered.{Numbered}
use Rattle.desk_files.specs.Schedule.{Schedules, IsFaultyStep}
use Rattle.desk_runs.specs.ReplayOutcome.{IsPlan, IsFaultyPlan}

-- what the law of schedules says
pub record ScheduleLaws : Type 0 where
  pub never_both : (files : List (List OpView)) (bytes : List ℕ) (steps : List Numbered) (n : ℕ) (fault : ScheduleFault) → Schedules files bytes steps → IsFaultyStep files bytes n fault → ⊥
  pub one_fault : (files : List (List OpView)) (bytes : List ℕ) (m n : ℕ) (f g : ScheduleFault) → IsFaultyStep files bytes m f → IsFaultyStep files bytes n g → (m ≡ n) × (f ≡ g)

pub some_apart : {A : Type 0} (o : Option A) (a : A) → o ≡ None → o ≡ Some a → ⊥
some_apart o a none some = cc

pub one_plan : (files : List (List OpView)) (schedule : Option (List ℕ)) (xs ys : List Numbered) → IsPlan files schedule xs → IsPlan files schedule ys → xs ≡ ys
one_plan files None xs ys a b = a ∙ sym b
one_plan files (Some bytes) xs ys a b = a.said ∙ sym b.said

module _ (laws : ScheduleLaws) where
  pub plan_apart : (files : List (List OpView)) (schedule : Option (List ℕ)) (steps : List Numbered) (line : ℕ) (fault : ScheduleFault) → IsPlan files schedule steps → IsFaultyPlan files schedule line fault → ⊥
  plan_apart files None steps line fault a h = absurd h
  plan_apart files (Some bytes) steps line fault a h = laws.never_both files bytes steps line fault a h

  pub one_faulty_plan : (files : List (List OpView)) (schedule : Option (List ℕ)) (m n : ℕ) (f g : ScheduleFault) → IsFaultyPlan files schedule m f → IsFaultyPlan files schedule n g → (m ≡ n) × (f ≡ g)
  one_faulty_plan files None m n f g a b = absurd a
  one_faulty_plan files (Some bytes) m n f g a b = laws.one_fault files bytes m n f g a b
