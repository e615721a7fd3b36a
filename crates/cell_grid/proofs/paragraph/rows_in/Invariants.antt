-- The rows of the lines so far; the runs that are left have the clusters of the others.
use Rattle.std.proofs.Common.{◌≡◌, map, take, drop}
use Rattle.std.specs.List.{All}
use Rattle.cell_grid.specs.Parts.{IsWithin, left_of}
use Rattle.cell_grid.specs.Rows.{row_of}
use Rattle.cell_grid.proofs.LinePieces.{AreAhead}
use Rattle.cell_grid.proofs.paragraph.rows_in.Given as goal

abbrev pub invariant-loop-line : goal.invariant-loop-line
invariant-loop-line l = record {
  made : l.rows.items ≡ map (row_of l.material.tables.now l.width l.material.para_level l.material.text.now l.material.levels.now) (take l.line-index l.line-items);
  ahead : AreAhead l.material.tables.now l.material.text.now (drop l.line-index l.line-items) (left_of l.material.clusters.now.runs.items l.cursor);
  within : All IsWithin (left_of l.material.clusters.now.runs.items l.cursor);
}
