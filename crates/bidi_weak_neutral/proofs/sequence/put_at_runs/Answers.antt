-- One run more: its levels are the next of the sequence's.
use Rattle.std.proofs.Common.{◌<◌, ◌≤◌, ◌-◌, ◌∙◌, ◌++◌, ap, sym, length, get_or, drop, arith}
use Rattle.std.proofs.lemmas.List.{take-append-drop}
use Rattle.bidi_explicit.specs.declared.level_run.LevelRun.{LevelRun}
use Rattle.bidi_weak_neutral.proofs.RunPlaces.{run-within, rest-long, put-more}
use Rattle.bidi_weak_neutral.proofs.sequence.put_at_runs.Goals as goal

abbrev no_run : LevelRun
no_run = record { start = 0; end = 0 }

pub split_at-requires : goal.split_at-requires
split_at-requires c =
    let long = rest-long c.loop-run.rest.now c.args.runs.now c.loop-run.run-index no_run c.loop-run-test.true c.loop-run.invariant.long in
    omega arith

pub slice_bounds-copy_from_slice-end : goal.slice_bounds-copy_from_slice-end
slice_bounds-copy_from_slice-end c =
    let some : (get_or c.args.runs.now c.loop-run.run-index no_run).start < (get_or c.args.runs.now c.loop-run.run-index no_run).end =
    c.requires.some c.loop-run.run-index no_run c.loop-run-test.true in
    let within : (get_or c.args.runs.now c.loop-run.run-index no_run).end ≤ length c.args.levels.now =
    run-within (length c.args.levels.now) c.args.runs.now c.loop-run.run-index no_run c.loop-run-test.true c.requires.some c.requires.inside in
    omega (arith, c.loop-run.auto.levels)

pub loop-run-preserved : goal.loop-run-preserved
loop-run-preserved c =
    let runs = c.args.runs.now in
    let i = c.loop-run.run-index in
    let rest = c.loop-run.rest.now in
    let some : (get_or c.args.runs.now c.loop-run.run-index no_run).start < (get_or c.args.runs.now c.loop-run.run-index no_run).end =
    c.requires.some c.loop-run.run-index no_run c.loop-run-test.true in
    let within : (get_or c.args.runs.now c.loop-run.run-index no_run).end ≤ length c.args.levels.now =
    run-within (length c.args.levels.now) c.args.runs.now c.loop-run.run-index no_run c.loop-run-test.true c.requires.some c.requires.inside in
    let long = rest-long rest runs i no_run c.loop-run-test.true c.loop-run.invariant.long in
    let count = (get_or runs i no_run).end - (get_or runs i no_run).start in
    let first = c.copy_from_slice.ensures.after ∙ c.split_at.ensures.front in
    record {
      so_far =
          put-more c.loop-run.levels rest c.copy_from_slice.new.self c.split_at.result.1.now _ runs i no_run c.loop-run-test.true some
          (omega (arith, c.loop-run.auto.levels))
          (sym (take-append-drop count rest) ∙ ap (λ t. t ++ drop count rest) (sym first) ∙ ap (λ t. c.copy_from_slice.new.self ++ t) (sym c.split_at.ensures.back))
          (ap length c.copy_from_slice.ensures.after ∙ c.split_at.ensures.front_len)
          c.loop-run.invariant.so_far;
      long = let back = c.split_at.ensures.back_len in omega arith;
    }
