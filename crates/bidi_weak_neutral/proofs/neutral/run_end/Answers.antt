-- The goals of `run_end` that are answered by hand.
use Rattle.std.proofs.Common.{◌∙◌, ap, sym, arith, get_or, ◌≡◌, true}
use Rattle.std.proofs.lemmas.List.{get_or_default}
use Rattle.std.specs.Prelude.{not}
use Rattle.bg_types.specs.declared.class.Bidi.TheVariants.{L}
use Rattle.bidi_weak_neutral.specs.Classes.{is_neutral}
use Rattle.bidi_weak_neutral.proofs.Runs.{nearest-drop, run-more}
use Rattle.bidi_weak_neutral.proofs.neutral.run_end.Goals as goal

pub loop-end-preserved : goal.loop-end-preserved
loop-end-preserved c =
    let h = c.loop-end.invariant in
    let types = c.args.types.now in
    let here : is_neutral (get_or c.args.types.now c.loop-end.end L) ≡ true = sym c.is_neutral.ensures ∙ c.if-is_neutral.true in
    record {
      from = omega arith;
      within = omega arith;
      run = run-more (λ k. is_neutral (get_or types k L) ≡ true) c.args.start c.loop-end.end h.run here;
      ahead = λ d.
          sym (nearest-drop (λ x. not (is_neutral x)) d types c.loop-end.end c.loop-end-test.true
          (ap (λ x. not (is_neutral x)) (get_or_default types c.loop-end.end d L c.loop-end-test.true) ∙ ap not here)) ∙ h.ahead d;
    }
