-- The goals of `read_schedule` that are answered by hand.
use Rattle.std.proofs.Common.{◌≡◌, ◌+◌, ◌∷◌, ◌++◌, [], List, refl, sym, subst, arith}
use Rattle.std.specs.List.{AllByRecursion}
use Rattle.std.proofs.lemmas.List.{append-nil}
use Rattle.desk_files.specs.declared.schedule.step.Numbered.{Numbered}
use Rattle.desk_files.specs.Files.{lists_of}
use Rattle.desk_files.specs.Schedule.{fault_in, IsStepOf}
use Rattle.desk_files.proofs.ReadSteps.{AreStepsRead, no_line_read, line_read, all_there}
use Rattle.desk_files.proofs.schedule.read_schedule.Goals as goal

pub loop-rest-init : goal.loop-rest-init
loop-rest-init c =
    let files = lists_of c.args.files.now in
    let text = c.args.schedule.now in
    let nothing = c.in_ok-steps.ensures.items in
    record {
      read = subst (λ (items : List Numbered). AreStepsRead files text text 0 items) (sym nothing) (no_line_read files text (c.lines_read.ensures.begin (fault_in files) text));
      there = subst (AllByRecursion (λ (s : Numbered). IsStepOf files s.step)) (sym nothing) tt;
      within = omega arith;
    }

pub loop-rest-preserved-in-None : goal.loop-rest-preserved-in-None
loop-rest-preserved-in-None c =
    let files = lists_of c.args.files.now in
    let kept = c.loop-rest.invariant in
    record {
      read = subst (AreStepsRead files c.args.schedule.now c.split_line.result.1.now (c.loop-rest.number + 1)) (append-nil c.loop-rest.steps.items)
          (line_read files (c.lines_read.ensures.more (fault_in files)) kept.read c.split_line.ensures.lines c.in-None.ensures.said refl);
      there = kept.there;
      within = let before = kept.within in let shorter = c.split_line.ensures.shorter in omega (arith, before, shorter);
    }

pub loop-rest-preserved : goal.loop-rest-preserved
loop-rest-preserved c =
    let files = lists_of c.args.files.now in
    let kept = c.loop-rest.invariant in
    let said = rw c.in-Some-Ok.field-0-is at c.in-Some-Ok.ensures.said in
    let there = rw c.in-Some-Ok.field-0-is at c.in-Some-Ok.ensures.there in
    let item : Numbered = record { line = c.loop-rest.number + 1; step = c.in-Some-Ok.step } in
    let grown : c.push.new.self.items ≡ c.loop-rest.steps.items ++ item ∷ [] = c.in_ok-push-in-Some-Ok.ensures.items in
    record {
      read = subst (AreStepsRead files c.args.schedule.now c.split_line.result.1.now (c.loop-rest.number + 1)) (sym grown)
          (line_read files (c.lines_read.ensures.more (fault_in files)) kept.read c.split_line.ensures.lines said refl);
      there = subst (AllByRecursion (λ (s : Numbered). IsStepOf files s.step)) (sym grown) (all_there files c.loop-rest.steps.items item kept.there there);
      within = let before = kept.within in let shorter = c.split_line.ensures.shorter in omega (arith, before, shorter);
    }
