-- One more move, and one more line.
use Rattle.std.proofs.Common.{get_or, string_bytes}
use Rattle.std.proofs.lemmas.List.{take_more}
use Rattle.caret.specs.declared.moves.Move.TheVariants.{Left}
use Rattle.desk_runs.proofs.Walks.{after-more, lines-more}
use Rattle.desk_runs.proofs.walk.walk_lines.Goals as goal

pub loop-step-preserved : goal.loop-step-preserved
loop-step-preserved c =
    let rows = c.args.grid.now.rows in
    let moves = c.args.moves.now in
    let i = c.loop-step.step-index in
    let more = take_more moves i Left c.loop-step-test.true in (
      lines-more rows c.args.start moves i (get_or moves i Left) more (string_bytes c.loop-step.lines) _ c.loop-step.caret c.moved-caret.result c.loop-step.invariant.0 c.loop-step.invariant.1 c.moved-caret.ensures.caret c.in_ok-push_line-2.ensures,
      after-more rows c.args.start moves i (get_or moves i Left) more c.loop-step.caret c.moved-caret.result c.loop-step.invariant.1 c.moved-caret.ensures.caret,
      c.moved-caret.ensures.within,
    )
