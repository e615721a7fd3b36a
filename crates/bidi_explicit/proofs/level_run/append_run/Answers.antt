-- The last place of a run is the one before its end.
use Rattle.std.proofs.Common.{◌≡◌, ◌<◌, ◌+◌, ◌-◌, ◌++◌, ◌∷◌, [], ◌∙◌, ap, subst, arith}
use Rattle.bidi_explicit.specs.LevelRuns.{IsRun}
use Rattle.bidi_explicit.proofs.Runs.{run_of, AreNoted-more}
use Rattle.bidi_explicit.proofs.level_run.append_run.Goals as goal

pub returns-clause-run : goal.returns-clause-run
returns-clause-run c =
    let end : c.run_end-end.result ≡ (c.run_end-end.result - 1) + 1 = let some : c.args.start < c.run_end-end.result = c.run_end-end.ensures.some in omega arith in
    subst (λ e. IsRun c.args.places.now (run_of c.args.start e)) end c.run_end-end.ensures

pub returns-clause-appended : goal.returns-clause-appended
returns-clause-appended c =
    let end : c.run_end-end.result ≡ (c.run_end-end.result - 1) + 1 = let some : c.args.start < c.run_end-end.result = c.run_end-end.ensures.some in omega arith in
    c.in_ok-push.ensures.items ∙ ap (λ e. c.args.runs.now.items ++ run_of c.args.start e ∷ []) end

pub returns-clause-noted : goal.returns-clause-noted
returns-clause-noted c =
    rw c.in_ok-push.ensures.items
    (AreNoted-more c.args.places.now c.args.runs.now.items c.args.ends.now c.args.start c.run_end-end.result (omega (arith, c.requires.long)) c.run_end-end.ensures c.requires.noted)
