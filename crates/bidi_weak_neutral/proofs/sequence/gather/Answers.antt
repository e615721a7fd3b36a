-- One run more, which is a part of the paragraph.
use Rattle.std.proofs.Common.{rules, ◌<◌, ◌≤◌, ◌∙◌, ◌++◌, ap, ap₂, sym, length, get_or, map, slice_index, arith}
use Rattle.std.proofs.lemmas.List.{take_all}
use Rattle.bidi_explicit.specs.declared.level_run.LevelRun.{LevelRun}
use Rattle.bidi_explicit.specs.LevelRuns.{run_places}
use Rattle.bidi_explicit.specs.Sequences.{kept_at}
use Rattle.bidi_weak_neutral.specs.Levels.{type_of}
use Rattle.bidi_weak_neutral.proofs.RunPlaces.{run-within, points-between, types-between, map-run_more}
use Rattle.bidi_weak_neutral.proofs.sequence.gather.Goals as goal

abbrev no_run : LevelRun
no_run = record { start = 0; end = 0 }

pub offset_bounds-of_paragraph-run : goal.offset_bounds-of_paragraph-run
offset_bounds-of_paragraph-run c =
    let some : (get_or c.args.runs.now c.loop-run.run-index no_run).start < (get_or c.args.runs.now c.loop-run.run-index no_run).end =
    c.requires.some c.loop-run.run-index no_run c.loop-run-test.true in
    let within : (get_or c.args.runs.now c.loop-run.run-index no_run).end ≤ length c.args.of_paragraph.now =
    run-within (length c.args.of_paragraph.now) c.args.runs.now c.loop-run.run-index no_run c.loop-run-test.true c.requires.some c.requires.inside in
    search rules

pub slice_bounds-extend_from_slice-end : goal.slice_bounds-extend_from_slice-end
slice_bounds-extend_from_slice-end c =
    let some : (get_or c.args.runs.now c.loop-run.run-index no_run).start < (get_or c.args.runs.now c.loop-run.run-index no_run).end =
    c.requires.some c.loop-run.run-index no_run c.loop-run-test.true in
    let within : (get_or c.args.runs.now c.loop-run.run-index no_run).end ≤ length c.args.of_paragraph.now =
    run-within (length c.args.of_paragraph.now) c.args.runs.now c.loop-run.run-index no_run c.loop-run-test.true c.requires.some c.requires.inside in
    omega arith

pub slice_bounds-append_types-end : goal.slice_bounds-append_types-end
slice_bounds-append_types-end c =
    let some : (get_or c.args.runs.now c.loop-run.run-index no_run).start < (get_or c.args.runs.now c.loop-run.run-index no_run).end =
    c.requires.some c.loop-run.run-index no_run c.loop-run-test.true in
    let within : (get_or c.args.runs.now c.loop-run.run-index no_run).end ≤ length c.args.kept.now =
    run-within (length c.args.kept.now) c.args.runs.now c.loop-run.run-index no_run c.loop-run-test.true c.requires.some c.requires.kept in
    omega arith

pub loop-run-init : goal.loop-run-init
loop-run-init c = record { characters = c.requires.characters; types = c.requires.types }

pub loop-run-preserved : goal.loop-run-preserved
loop-run-preserved c =
    let points = c.args.of_paragraph.now in
    let kept = c.args.kept.now in
    let runs = c.args.runs.now in
    let i = c.loop-run.run-index in
    let lt = c.loop-run-test.true in
    record {
      characters =
          c.in_ok-extend_from_slice.ensures.items
          ∙ ap₂ (λ x y. x ++ y) c.loop-run.invariant.characters
          (sym (points-between points _ _ (run-within (length points) runs i _ lt c.requires.some c.requires.inside)))
          ∙ sym (map-run_more (slice_index points) runs i _ lt);
      types =
          c.in_ok-append_types.ensures
          ∙ ap₂ (λ x y. x ++ y) c.loop-run.invariant.types
          (sym (types-between kept _ _ (run-within (length kept) runs i _ lt c.requires.some c.requires.kept)))
          ∙ sym (map-run_more (λ k. type_of (kept_at kept k)) runs i _ lt);
    }

pub returns-clause-characters : goal.returns-clause-characters
returns-clause-characters c =
    c.loop-run.invariant.characters
    ∙ ap (λ rs. map (slice_index c.args.of_paragraph.now) (run_places rs)) (take_all c.loop-run.run-index c.args.runs.now (omega arith))

pub returns-clause-types : goal.returns-clause-types
returns-clause-types c =
    c.loop-run.invariant.types
    ∙ ap (λ rs. map (λ k. type_of (kept_at c.args.kept.now k)) (run_places rs)) (take_all c.loop-run.run-index c.args.runs.now (omega arith))
