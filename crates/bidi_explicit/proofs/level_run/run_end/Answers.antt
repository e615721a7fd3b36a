-- The run goes on as long as a place has the level of the first.
use Rattle.std.proofs.Common.{◌≡◌, ◌≤◌, ◌<◌, ◌∙◌, inl, inr, ap₂, sym, subst, length, true, false, None, arith}
use Rattle.std.proofs.lemmas.Bool.{cases_eq}
use Rattle.bidi_explicit.specs.Sequences.{kept_at, same_level}
use Rattle.bidi_explicit.specs.LevelRuns.{IsLevelRun}
use Rattle.bidi_explicit.proofs.Chains.{kept_at-is}
use Rattle.bidi_explicit.proofs.Runs.{edge-behind, edge-last}
use Rattle.bidi_explicit.proofs.level_run.run_end.Goals as goal

pub loop-end-init : goal.loop-end-init
loop-end-init c = λ k from to. absurd (omega arith)

pub loop-end-preserved : goal.loop-end-preserved
loop-end-preserved c =
    let places = c.args.places.now in
    let here : same_level (kept_at c.args.places.now c.args.start) (kept_at c.args.places.now c.loop-end.end) ≡ true =
    ap₂ same_level (kept_at-is places c.args.start None c.requires) (kept_at-is places c.loop-end.end None c.loop-end-test.true)
    ∙ sym c.same_level.ensures ∙ c.if-not-same_level.false in
    λ k from to.
    elim (cases_eq k c.loop-end.end) [
      | inl at ↦ subst (λ i. same_level (kept_at places c.args.start) (kept_at places i) ≡ true) (sym at) here
      | inr ne ↦ c.loop-end.invariant k from (omega arith)
    ]

pub returns-then-not-same_level : goal.returns-then-not-same_level
returns-then-not-same_level c =
    let places = c.args.places.now in
    let apart : same_level (kept_at c.args.places.now c.args.start) (kept_at c.args.places.now c.loop-end.end) ≡ false =
    ap₂ same_level (kept_at-is places c.args.start None c.requires) (kept_at-is places c.loop-end.end None c.loop-end-test.true)
    ∙ sym c.same_level.ensures ∙ c.if-not-same_level.true in
    let some : c.args.start < c.loop-end.end = omega arith in
    let within : c.loop-end.end ≤ length c.args.places.now = omega arith in
    record {
      some = some;
      within = within;
      level = c.loop-end.invariant;
      edge = edge-behind places c.args.start c.loop-end.end c.loop-end.invariant some apart;
    }

pub returns : goal.returns
returns c =
    let places = c.args.places.now in
    let at : c.loop-end.end ≡ length c.args.places.now = omega arith in
    let run : IsLevelRun c.args.places.now c.args.start (length c.args.places.now) =
    subst (IsLevelRun places c.args.start) at c.loop-end.invariant in
    record {
      some = c.requires;
      within = omega arith;
      level = run;
      edge = edge-last places c.args.start (length places) run c.requires (omega arith);
    }
