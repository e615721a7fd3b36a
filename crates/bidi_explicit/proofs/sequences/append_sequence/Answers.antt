-- The walk goes from run to run, to the chain's end.
use Rattle.std.proofs.Common.{◌≡◌, ◌≤◌, ◌<◌, ◌+◌, ◌∙◌, length, Some, None, ap, sym, arith}
use Rattle.std.proofs.lemmas.List.{take_all}
use Rattle.bidi_explicit.specs.Sequences.{next_by, chain}
use Rattle.bidi_explicit.specs.Links.{linked}
use Rattle.bidi_explicit.specs.LevelRuns.{run_places}
use Rattle.bidi_explicit.proofs.Chains.{IsWalkedTo-start, IsWalkedTo-on, IsWalkedTo-end}
use Rattle.bidi_explicit.proofs.Linking.{linked-forward, matched-here, pdi_at-is, extent-is}
use Rattle.bidi_explicit.proofs.Runs.{run_of, before-more}
use Rattle.bidi_explicit.proofs.Walking.{IsWalkedTo-more}
use Rattle.bidi_explicit.proofs.sequences.append_sequence.Goals as goal

pub loop-place-init : goal.loop-place-init
loop-place-init c =
    let controls = c.args.controls.now in
    let places = c.args.places.now in
    let old = c.args.runs.now.items in
    let first = c.args.first in
    let forward = linked-forward controls places c.requires.matched c.requires.controls in
    record {
      walked =
          IsWalkedTo-more controls places c.requires.matched c.requires.controls first first c.in_ok-last.last (run_places old) old _
          c.in_ok-last.ensures.run c.in_ok-last.ensures.appended
          (IsWalkedTo-start (linked controls places) (length places) forward first (run_places old) c.requires.first);
      before =
          before-more old old _ (run_of first (c.in_ok-last.last + 1)) (take_all (length old) old (omega arith)) c.in_ok-last.ensures.appended;
      told = c.in_ok-last.ensures.noted;
    }

pub next-requires-clause-pdi : goal.next-requires-clause-pdi
next-requires-clause-pdi c =
    let inside = c.loop-place.invariant.walked.inside in
    matched-here c.args.controls.now c.args.places.now c.loop-place.last _ c.requires.matched c.requires.controls (omega (arith, c.requires.controls))

pub loop-place-preserved : goal.loop-place-preserved
loop-place-preserved c =
    let controls = c.args.controls.now in
    let places = c.args.places.now in
    let old = c.args.runs.now.items in
    let runs = c.loop-place.runs.items in
    let place = c.in-Some.place in
    let forward = linked-forward controls places c.requires.matched c.requires.controls in
    let here = c.loop-place.invariant.walked.inside in
    let next : linked c.args.controls.now c.args.places.now c.loop-place.last ≡ Some c.in-Some.place =
    ap (λ pdi. next_by places pdi c.loop-place.last) (pdi_at-is controls c.loop-place.last _ (omega (arith, c.requires.controls))) ∙ sym c.in-Some.ensures.next in
    record {
      walked =
          IsWalkedTo-more controls places c.requires.matched c.requires.controls c.args.first place c.in_ok-last-2.last (run_places old) runs _
          c.in_ok-last-2.ensures.run c.in_ok-last-2.ensures.appended
          (IsWalkedTo-on (linked controls places) (length places) forward c.args.first c.loop-place.last (run_places old) (run_places runs) place
          c.loop-place.invariant.walked next);
      before = before-more old runs _ (run_of place (c.in_ok-last-2.last + 1)) c.loop-place.invariant.before c.in_ok-last-2.ensures.appended;
      told = c.in_ok-last-2.ensures.noted;
    }

pub loop-place-smaller : goal.loop-place-smaller
loop-place-smaller c =
    let some : c.in-Some.place < c.in_ok-last-2.last + 1 = c.in_ok-last-2.ensures.run.some in
    let within : c.in_ok-last-2.last + 1 ≤ length c.args.places.now = c.in_ok-last-2.ensures.run.within in
    let ahead : c.loop-place.last < c.in-Some.place = c.in-Some.ensures.inside.0 in
    omega arith

pub returns-clause-chain : goal.returns-clause-chain
returns-clause-chain c =
    let controls = c.args.controls.now in
    let places = c.args.places.now in
    let here = c.loop-place.invariant.walked.inside in
    let none : linked c.args.controls.now c.args.places.now c.loop-place.last ≡ None =
    ap (λ pdi. next_by places pdi c.loop-place.last) (pdi_at-is controls c.loop-place.last _ (omega (arith, c.requires.controls))) ∙ sym c.in_default.ensures.next in
    (IsWalkedTo-end (linked controls places) (length places) c.args.first c.loop-place.last (run_places c.args.runs.now.items) (run_places c.loop-place.runs.items)
    c.loop-place.invariant.walked none).0

pub returns-clause-extent : goal.returns-clause-extent
returns-clause-extent c =
    let controls = c.args.controls.now in
    let places = c.args.places.now in
    let here = c.loop-place.invariant.walked.inside in
    let none : linked c.args.controls.now c.args.places.now c.loop-place.last ≡ None =
    ap (λ pdi. next_by places pdi c.loop-place.last) (pdi_at-is controls c.loop-place.last _ (omega (arith, c.requires.controls))) ∙ sym c.in_default.ensures.next in
    let last =
    (IsWalkedTo-end (linked controls places) (length places) c.args.first c.loop-place.last (run_places c.args.runs.now.items) (run_places c.loop-place.runs.items)
    c.loop-place.invariant.walked none).1 in
    extent-is c.args.level controls places c.args.first c.loop-place.last (chain (linked controls places) (length places) c.args.first) _ (omega (arith, c.requires.controls)) last
    _ _ _ _ _ _ _ (c.len-start.ensures ∙ c.args.runs.now.ok.0) (c.len.ensures ∙ c.loop-place.runs.ok.0) c.level_or.ensures c.sos.ensures c.eos.ensures
