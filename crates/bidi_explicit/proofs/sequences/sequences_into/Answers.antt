-- Each sequence is gathered where it begins, and the level runs that one has already are passed.
use Rattle.std.proofs.Common.{ℕ, ◌≡◌, ◌∙◌, ◌<◌, ◌==◌, suc, sym, ap, ap₂, subst, List, [], ◌++◌, ◌-◌, length, get_or, take, replicate, None, false, arith}
use Rattle.std.specs.Prelude.{is_some, ◌&&◌}
use Rattle.std.proofs.lemmas.List.{take_all}
use Rattle.std.proofs.lemmas.List.Elements.{All-weaker}
use Rattle.bidi_explicit.specs.Sequences.{begins}
use Rattle.bidi_explicit.specs.Links.{linked, is_unclosed_at}
use Rattle.bidi_explicit.specs.LevelRuns.{HasPlace, IsRun, has_start, run_places}
use Rattle.bidi_explicit.proofs.Linking.{linked-forward, linked-from_kept}
use Rattle.bidi_explicit.proofs.Gathering.{IsGathered-start}
use Rattle.bidi_explicit.proofs.Runs.{AreNoted-start, has-start, not-zero}
use Rattle.bidi_explicit.proofs.Taken.{IsTaken-start, begins-is}
use Rattle.bidi_explicit.proofs.Walking.{IsDone, IsDone-past, IsDone-more, IsNext-is}
use Rattle.bidi_explicit.proofs.sequences.sequences_into.Goals as goal
use Rattle.bidi_explicit.proofs.sequences.sequences_into.Goals.{then-is_some+then-noted-first-eq0+in_ok-extent+in_ok-push, else-is_some, else-is_some-via-then-is_some+else-noted-first-eq0, else-is_some-via-else-is_some}

-- no end is noted yet
filled : (noted items old : List ℕ) (n k : ℕ) → noted ≡ items → items ≡ take n old ++ replicate (n - k) 0 → old ≡ [] → k ≡ 0 → noted ≡ replicate n 0
filled noted items old n k same is none zero =
    let all : n - 0 ≡ n = omega arith in
    same ∙ is ∙ ap₂ (λ (xs : List ℕ) (m : ℕ). take n xs ++ replicate (n - m) 0) none zero
    ∙ ap (λ (xs : List ℕ). xs ++ replicate (n - 0) 0) (take_all n [] (omega arith)) ∙ ap (λ m. replicate m 0) all

pub loop-first-init : goal.loop-first-init
loop-first-init c = record {
  done = record {
    gathered =
        rw (c.clear.ensures.items, c.clear-2.ensures.items)
        (IsGathered-start c.args.level (linked c.args.controls.now c.args.places.now) (is_unclosed_at c.args.controls.now) c.args.places.now);
    taken = rw c.clear.ensures.items (IsTaken-start (linked c.args.controls.now c.args.places.now) c.args.places.now);
    told =
        rw (
          c.clear.ensures.items,
          filled c.as_mut_slice-noted.result.now _ _ (length c.args.places.now) _ c.as_mut_slice-noted.ensures.value c.in_ok-resize.ensures.items c.clear-3.ensures.items c.clear-3.ensures.len,
        )
        (AreNoted-start c.args.places.now);
  };
  edge = λ before at. absurd (omega arith);
  within = omega arith;
}

pub loop-first-preserved : goal.loop-first-preserved
loop-first-preserved c =
    let level = c.args.level in
    let controls = c.args.controls.now in
    let places = c.args.places.now in
    let first = c.loop-first.first in
    let runs = c.loop-first.runs.items in
    let extents = c.loop-first.extents.items in
    let ends = c.loop-first.noted in
    let so_far = c.loop-first.invariant.done in
    let inside : c.loop-first.first < length c.args.places.now = c.loop-first-test.true in
    let long : length c.loop-first.noted ≡ length c.args.places.now = omega (arith, ap length c.as_mut_slice-noted.ensures.value, c.resize.new.self.ok.0, c.in_ok-resize.ensures.len) in
    let noted : length c.if-is_some.noted ≡ length c.args.places.now = omega (arith, ap length c.as_mut_slice-noted.ensures.value, c.resize.new.self.ok.0, c.in_ok-resize.ensures.len) in
    let b : (is_some (get_or c.args.places.now c.loop-first.first None) && (get_or c.loop-first.noted c.loop-first.first 0 == 0))
    ≡ begins (linked c.args.controls.now c.args.places.now) c.args.places.now c.loop-first.first =
    ap (λ e. is_some (get_or c.args.places.now c.loop-first.first None) && e) (so_far.told.begun first (omega arith))
    ∙ begins-is (linked controls places) places (linked-forward controls places c.requires.matched c.requires.long) (linked-from_kept controls places) first (run_places runs)
    so_far.taken None (has_start runs first) inside (sym (has-start places runs so_far.told.whole first c.loop-first.invariant.edge)) in
    let done : IsDone c.args.level (linked c.args.controls.now c.args.places.now) (is_unclosed_at c.args.controls.now) c.args.places.now (suc c.loop-first.first)
    c.if-is_some.runs.items c.if-is_some.extents.items c.if-is_some.noted =
    elim c.if-is_some.branch [
      | then-is_some+then-noted-first-eq0+in_ok-extent+in_ok-push w ↦
          rw (w.runs-is, w.extents-is, w.noted-is)
          (IsDone-more level controls places c.requires.matched c.requires.kept c.requires.long first inside runs extents ends so_far
          (sym b ∙ ap₂ (λ kept noted. kept && noted) (sym c.is_some.ensures ∙ w.if-is_some.true) (ap (λ e. e == 0) w.if-noted-first-eq0.true))
          _ w.in_ok-extent.extent _ _ w.in_ok-extent.ensures.before w.in_ok-extent.ensures.chain w.in_ok-extent.ensures.extent w.in_ok-push.ensures.items w.in_ok-extent.ensures.noted)
      | else-is_some w ↦
          let out : begins (linked c.args.controls.now c.args.places.now) c.args.places.now c.loop-first.first ≡ false =
          elim w.else-is_some.branch [
            | else-is_some-via-then-is_some+else-noted-first-eq0 v ↦
                sym b ∙ ap₂ (λ kept noted. kept && noted) (sym c.is_some.ensures ∙ v.if-is_some.true) (not-zero _ (let ne = v.if-noted-first-eq0.false in omega arith))
            | else-is_some-via-else-is_some v ↦ sym b ∙ ap (λ kept. kept && (get_or ends first 0 == 0)) (sym c.is_some.ensures ∙ v.if-is_some.false)
          ] in
          rw (w.runs-is, w.extents-is, w.noted-is)
          (IsDone-past level controls places c.requires.matched c.requires.kept c.requires.long first inside runs extents ends so_far out)
    ] in
    let next = IsNext-is level controls places c.requires.matched c.requires.long c.if-is_some.runs.items c.if-is_some.extents.items c.if-is_some.noted
    first inside noted c.loop-first.invariant.edge done _ c.max-first.ensures in
    record { done = next.done; edge = next.edge; within = next.within }

pub loop-first-smaller : goal.loop-first-smaller
loop-first-smaller c = let max = c.max-first.ensures in omega arith

pub returns-clause-sequences : goal.returns-clause-sequences
returns-clause-sequences c =
    let at : c.loop-first.first ≡ length c.args.places.now = omega arith in
    (subst (λ n. IsDone c.args.level (linked c.args.controls.now c.args.places.now) (is_unclosed_at c.args.controls.now) c.args.places.now n c.loop-first.runs.items c.loop-first.extents.items c.loop-first.noted) at c.loop-first.invariant.done).gathered.made

pub returns-clause-within : goal.returns-clause-within
returns-clause-within c =
    let done = c.loop-first.invariant.done in
    record {
      stretches = done.gathered.stretches;
      some = All-weaker (IsRun c.args.places.now) HasPlace (λ r run. run.some) c.loop-first.runs.items done.told.whole;
      kept = done.gathered.kept;
    }
