-- Entries cover their cells once, and blanks the rest.
use Rattle.std.proofs.Common.{◌≡◌, ℕ, ◌+◌, ◌≤◌, length, slice_get, sym, ap, subst, ◌∙◌}
use Rattle.std.specs.List.{All}
use Rattle.bidi_explicit.specs.Embedding.{paragraph_level, classes_of}
use Rattle.bidi_weak_neutral.specs.Levels.{levels_of}
use Rattle.cell_grid.specs.LawsBelow.{LawsBelow}
use Rattle.cell_grid.specs.Hanging.{line_columns}
use Rattle.cell_grid.specs.Cells.{cells_of, ColumnsFollow, total}
use Rattle.cell_grid.specs.Rows.{DrawnRow, start_column, row_of, shifted}
use Rattle.cell_grid.specs.Grids.{DrawnGrid, IsDrawn}
use Rattle.cell_grid.specs.Laws.{CoversCellsOnce}
use Rattle.cell_grid.proofs.Slicing.{paragraph-utf8}
use Rattle.cell_grid.proofs.Drawn.{rows-each, each-row}
use Rattle.cell_grid.proofs.Edges.{row-follow, row-within}
use Rattle.cell_grid.proofs.Celled.{length-cells, seen, covered, cells_of-shifted}

-- a row of such cells
covers : (r : DrawnRow) (start width : ℕ) → ColumnsFollow start r.entries (start + total r.entries) → start + total r.entries ≤ width → r.cells ≡ cells_of width start r.entries → CoversCellsOnce width r
covers r start width f fits is = record {
  length = ap length is ∙ length-cells r.entries start width f fits;
  seen = λ column c at. seen r.entries start width f fits column c (ap (λ l. slice_get l column) (sym is) ∙ at);
  covered = λ n column e at low high.
      let h = covered r.entries start width f fits n column e at low high in
      (h.0, ap (λ l. slice_get l column) is ∙ h.1, h.2);
}

-- each row of a grid
pub cells-rows : (below : LawsBelow) (g : DrawnGrid) (d : IsDrawn g) → All (CoversCellsOnce d.width) g.rows
cells-rows below g d =
    subst (All (CoversCellsOnce d.width)) (sym d.rows)
    (each-row below g.tables d.width d.base g.text d.utf8 (CoversCellsOnce d.width) (λ p h.
    rows-each below g.tables d.width d.at_least d.base p.text (paragraph-utf8 g.text d.utf8 p h) (λ r. CoversCellsOnce d.width (shifted p.first_byte p.first_place r)) (λ line l.
    let para = paragraph_level d.base (classes_of g.tables p.text) in
    let levels = levels_of g.tables d.base p.text in
    let r = row_of g.tables d.width para p.text levels line in
    let start = start_column d.width para (line_columns g.tables d.width p.text line) in
    covers (shifted p.first_byte p.first_place r) start d.width
    (row-follow below g.tables d.width para p.text levels line l p.first_byte p.first_place)
    (row-within below g.tables d.width para p.text levels line l p.first_byte p.first_place)
    (sym (cells_of-shifted d.width start p.first_byte p.first_place r.entries)))))
