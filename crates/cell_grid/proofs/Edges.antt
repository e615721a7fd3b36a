-- Entries stand side by side, within the row's edges.
use Rattle.std.proofs.Common.{◌≡◌, ℕ, ◌+◌, ◌-◌, ◌≤◌, List, map, length, get_or, sum, sum_by, slice_range, sym, ap, subst, ◌∙◌, arith}
use Rattle.unicode_tables.specs.Tables.{TableValues}
use Rattle.paragraphs.specs.Clusters.{cluster_sizes}
use Rattle.line_break.specs.declared.line.Line.{Line}
use Rattle.reorder.specs.VisualList.{visual_list}
use Rattle.cell_grid.specs.LawsBelow.{LawsBelow}
use Rattle.cell_grid.specs.Spans.{spans}
use Rattle.cell_grid.specs.Hanging.{line_columns}
use Rattle.cell_grid.specs.Rows.{start_column, levels_in_line, row_of, shifted_entry}
use Rattle.cell_grid.specs.Outline.{own_columns, IsLine}
use Rattle.cell_grid.specs.Cells.{ColumnsFollow, total}
use Rattle.cell_grid.proofs.Sides.{sum-order, length-hung, sum-hung, start-fits, total-entries_from, same_follow, follow-entries, follow-shifted, total-shifted}
use Rattle.cell_grid.proofs.Parts.{length-slice}
use Rattle.cell_grid.proofs.LinesOf.{length-levels, hung-columns}
use Rattle.cell_grid.proofs.Counting.{length-own_columns, length-sizes_of}

-- the columns of a line that fits are within the width, one for each cluster
pub line_columns-fit : (tables : TableValues) (width : ℕ) (text : List ℕ) (line : Line) → IsLine tables width text line → sum (line_columns tables width text line) ≤ width
line_columns-fit tables width text line h =
    subst (λ l. sum l ≤ width) (hung-columns tables width text line h) (sum-hung width _)

pub length-line_columns : (below : LawsBelow) (tables : TableValues) (width : ℕ) (text : List ℕ) (line : Line) → IsLine tables width text line → length (line_columns tables width text line) ≡ line.end - line.start
length-line_columns below tables width text line h =
    let order = h.order in
    let within = h.within in
    let n = length-own_columns below tables text in
    let fits : line.end ≤ length (own_columns tables text) = omega arith in
    ap length (sym (hung-columns tables width text line h)) ∙ length-hung width _ ∙ length-slice (own_columns tables text) line.start line.end order fits

module _ (below : LawsBelow) (tables : TableValues) (width para : ℕ) (text levels : List ℕ) (line : Line) (h : IsLine tables width text line) where
  -- a row's entries are as wide as its clusters
  pub row-total : total (row_of tables width para text levels line).entries ≡ sum (line_columns tables width text line)
  row-total =
      let sp = slice_range (spans text) line.start line.end in
      let sz = slice_range (cluster_sizes text) line.start line.end in
      let lv = levels_in_line tables text levels para sp sz in
      let cols = line_columns tables width text line in
      let order = h.order in
      let within = h.within in
      let nz = length-sizes_of text in
      let a = length-levels tables text levels para sp sz in
      let b = length-slice (cluster_sizes text) line.start line.end order (omega arith) in
      let c = length-line_columns below tables width text line h in
      let same : length cols ≡ length lv = omega arith in
      total-entries_from sp lv cols (start_column width para cols) (visual_list lv)
      ∙ sum-order (length lv) (visual_list lv) (below.rearrangement lv) cols same

  -- its entries stand side by side, from its start on
  pub row-follow : (i j : ℕ) → let start = start_column width para (line_columns tables width text line) in
      ColumnsFollow start (map (shifted_entry i j) (row_of tables width para text levels line).entries) (start + total (map (shifted_entry i j) (row_of tables width para text levels line).entries))
  row-follow i j =
      let sp = slice_range (spans text) line.start line.end in
      let lv = levels_in_line tables text levels para sp (slice_range (cluster_sizes text) line.start line.end) in
      let cols = line_columns tables width text line in
      let start = start_column width para cols in
      let entries = (row_of tables width para text levels line).entries in
      let wide = total-shifted i j entries in
      let sums = total-entries_from sp lv cols start (visual_list lv) in
      let end : start + sum_by (λ k. get_or cols k 0) (visual_list lv) ≡ start + total (map (shifted_entry i j) entries) = omega arith in
      follow-shifted i j entries start (start + total (map (shifted_entry i j) entries))
      (same_follow start entries (start + sum_by (λ k. get_or cols k 0) (visual_list lv)) (start + total (map (shifted_entry i j) entries)) end (follow-entries sp lv cols start (visual_list lv)))

  pub row-within : (i j : ℕ) → start_column width para (line_columns tables width text line) + total (map (shifted_entry i j) (row_of tables width para text levels line).entries) ≤ width
  row-within i j =
      let all = row-total in
      let wide = total-shifted i j (row_of tables width para text levels line).entries in
      let fits = start-fits width para (line_columns tables width text line) (line_columns-fit tables width text line h) in
      omega arith
