-- One more step was made, over the rows of the same text.
use native.Mathlib.Numerals.{unary_clauses}
use Rattle.std.proofs.Common.{sym, subst, ap, ◌∙◌}
use Rattle.caret.specs.Moves.{right_of}
use Rattle.caret.specs.Positions.{position_moved, IsPositionOf}
use Rattle.live_document.specs.Documents.{whole_rows}
use Rattle.calling.proofs.editor.walk_right.Goals as goal

pub loop-init : goal.loop-init
loop-init c = (
  c.in_ok-position.ensures.position,
  subst (λ rows. IsPositionOf rows c.in_ok-position.position) (sym c.position_at.ensures.rows) c.in_ok-position.ensures.stands,
  c.position_at.ensures.rows,
  c.position_at.ensures.desk,
)

pub loop-preserved : goal.loop-preserved
loop-preserved c =
    let so_far = c.loop.invariant in (
      simp unary_clauses (c.in_ok-position-2.ensures.position
          ∙ ap (λ rows. position_moved right_of rows c.loop.position) so_far.2
          ∙ ap (position_moved right_of (whole_rows c.args.document.now)) so_far.0),
      subst (λ rows. IsPositionOf rows c.in_ok-position-2.position) (sym c.right.ensures.rows) c.in_ok-position-2.ensures.stands,
      c.right.ensures.rows ∙ so_far.2,
      c.right.ensures.desk ∙ so_far.3,
    )
