-- The goals of `lines_over` that are answered by hand.
use Rattle.std.proofs.Common.{ap, ◌∙◌}
use Rattle.cell_grid.specs.Grids.{DrawnGrid, grid_of}
use Rattle.caret.specs.declared.caret.Caret.{Caret}
use Rattle.view_cache.specs.Drawings.{KeptView}
use Rattle.std.specs.List.{flat_map}
use Rattle.desk_runs.specs.Carets.{walk, caret_line, walk_lines}
use Rattle.desk_runs.proofs.walking.lines_over.Goals as goal

pub returns-clause-lines : goal.returns-clause-lines
returns-clause-lines c =
    let drawn = c.in_ok-grid.ensures.grid ∙ ap (λ (view : KeptView). grid_of view.tables c.args.width c.args.base c.args.text.now) c.in_ok-view.ensures in
    c.in_ok-lines.ensures
    ∙ ap (λ (start : Caret). flat_map caret_line (walk c.in_ok-grid.grid.rows start c.args.moves.now)) c.at_place-start.ensures.caret
    ∙ ap (λ (grid : DrawnGrid). walk_lines grid c.args.place c.args.moves.now) drawn
