-- Reading the lines of a schedule one after the other.
use Rattle.std.proofs.Common.{◌≡◌, ℕ, ◌+◌, List, [], ◌∷◌, ◌++◌, length, Option, None, Result, refl, sym, ap, subst, ◌∙◌, append_assoc, arith}
use Rattle.std.specs.List.{AllByRecursion}
use Rattle.std.specs.Str.Lines.{lines}
use Rattle.std.proofs.lemmas.List.{append-nil}
use Rattle.bg_types.specs.declared.op.OpView.{OpView}
use Rattle.op_listing.specs.FirstFault.{AreFaultless, AreRead}
use Rattle.desk_files.specs.declared.schedule.step.Numbered.{Numbered}
use Rattle.desk_files.specs.declared.schedule_fault.ScheduleFault.{ScheduleFault}
use Rattle.desk_files.specs.declared.schedule.step.RunStep.{RunStep}
use Rattle.desk_files.specs.Schedule.{line_says, fault_in, fault_said, step_said, with_line, steps_from, IsStepOf, Schedules}

module _ (files : List (List OpView)) where
  -- the lines before the rest are read: this many, none faulty, and they say these steps
  pub record AreStepsRead (text rest : List ℕ) (number : ℕ) (steps : List Numbered) : Type 0 where
    pub done : List (List ℕ)
    pub lines_are : AreRead (fault_in files) text rest number done
    pub said : steps ≡ steps_from files 1 done

  pub no_line_read : (text : List ℕ) → AreRead (fault_in files) text text 0 [] → AreStepsRead text text 0 []
  no_line_read text h = record { done = []; lines_are = h; said = refl }

  steps_push : (n : ℕ) (xs : List (List ℕ)) (x : List ℕ) → steps_from files n (xs ++ x ∷ []) ≡ steps_from files n xs ++ with_line (n + length xs) (step_said (line_says files x))
  steps_push n [] x = let here : n ≡ n + 0 = omega arith in append-nil (with_line n (step_said (line_says files x))) ∙ ap (λ k. with_line k (step_said (line_says files x))) here
  steps_push n (y ∷ xs) x =
      let there : n + 1 + length xs ≡ n + length (y ∷ xs) = omega arith in
      ap (λ (s : List Numbered). with_line n (step_said (line_says files y)) ++ s) (steps_push (n + 1) xs x ∙ ap (λ k. steps_from files (n + 1) xs ++ with_line k (step_said (line_says files x))) there)
      ∙ sym (append_assoc (with_line n (step_said (line_says files y))) (steps_from files (n + 1) xs) (with_line (n + length (y ∷ xs)) (step_said (line_says files x))))

  -- one more line is read, and may say a step
  pub line_read : {text rest after line : List ℕ} {number : ℕ} {steps : List Numbered} {said : Option (Result RunStep ScheduleFault)}
      → (more : (text rest after line : List ℕ) (number : ℕ) (done : List (List ℕ)) → AreRead (fault_in files) text rest number done → lines rest ≡ line ∷ lines after → fault_in files line ≡ None → AreRead (fault_in files) text after (number + 1) (done ++ line ∷ []))
      → AreStepsRead text rest number steps → lines rest ≡ line ∷ lines after → said ≡ line_says files line → fault_said said ≡ None → AreStepsRead text after (number + 1) (steps ++ with_line (number + 1) (step_said said))
  line_read {text} {rest} {after} {line} {number} {steps} {said} more h first is right = record {
    done = h.done ++ line ∷ [];
    lines_are = more text rest after line number h.done h.lines_are first (ap fault_said (sym is) ∙ right);
    said =
        let so_far = h.lines_are.count in
        let number_is : number + 1 ≡ 1 + length h.done = omega (arith, so_far) in
        (λ i. h.said i ++ with_line (number + 1) (step_said (is i))) ∙ ap (λ k. steps_from files 1 h.done ++ with_line k (step_said (line_says files line))) number_is ∙ sym (steps_push 1 h.done line);
  }

  pub all_there : (xs : List Numbered) (x : Numbered) → AllByRecursion (λ s. IsStepOf files s.step) xs → IsStepOf files x.step → AllByRecursion (λ s. IsStepOf files s.step) (xs ++ x ∷ [])
  all_there [] x h p = (p, tt)
  all_there (y ∷ xs) x h p = (h.0, all_there xs x h.1 p)
