-- The lines of a paragraph: each fits, and its clusters stand together.
use Rattle.std.proofs.Common.{get_or, ◌≡◌, ℕ, suc, ◌<◌, ◌≤◌, ◌⊎◌, true, List, [], ◌∷◌, length, drop, slice_range, refl, sym, ap, subst, ◌∙◌, arith, inl, inr}
use Rattle.std.proofs.lemmas.Bool.Decides.{leb_tells}
use Rattle.std.proofs.lemmas.List.Elements.{All-nil, All-cons}
use Rattle.std.specs.List.{All}
use Rattle.std.specs.Str.{IsUtf8}
use Rattle.unicode_tables.specs.Tables.{TableValues}
use Rattle.paragraphs.specs.Clusters.{clusters}
use Rattle.line_break.specs.declared.line.Line.{Line}
use Rattle.line_break.specs.LineClusters.{line_clusters}
use Rattle.line_break.specs.Lines.{fits, lines}
use Rattle.paragraphs.specs.declared.span.Span.{Span}
use Rattle.cell_grid.specs.LawsBelow.{LawsBelow}
use Rattle.reorder.specs.LineLevels.{group_firsts}
use Rattle.cell_grid.specs.Hanging.{hung, line_columns}
use Rattle.cell_grid.specs.Rows.{levels_in_line}
use Rattle.cell_grid.specs.Outline.{own_columns, IsLine}
use Rattle.cell_grid.proofs.Fitting.{hung-line}
use Rattle.cell_grid.proofs.LineBounds.{bounds-follow}
use Rattle.cell_grid.proofs.Parts.{slice-map, part-stands}

module _ (below : LawsBelow) (tables : TableValues) (text : List ℕ) (u : IsUtf8 text) (width : ℕ) (wide : 2 ≤ width) where
  -- it has a cluster, or there is none
  line-stands : (line : Line) → line.start ≤ line.end → line.end ≤ length (clusters text) → fits width (slice_range (line_clusters tables text) line.start line.end) ≡ true
      → (line.start < line.end) ⊎ ((length (clusters text) ≡ 0) × (line.start ≡ 0) × (line.end ≡ 0)) → IsLine tables width text line
  line-stands line order within fit some = record { order = order; within = within; fits = fit; stand = part-stands below text u line.start line.end order within some }

  -- each line fits and stands together
  pub IsLine-lines : All (IsLine tables width text) (lines tables text width)
  IsLine-lines = elim (leb_tells 1 (length (clusters text))) [
    | inl some ↦ λ k d lt.
        let line = get_or (lines tables text width) k d in
        let bounds = (bounds-follow (lines tables text width) 0 (length (clusters text)) (below.lines_follow tables text width some.1)).1 k d lt in
        let has = bounds.some in
        line-stands line (omega arith) bounds.within (below.lines_fit tables text width wide k d lt) (inl bounds.some)
    | inr none ↦
        let few = none.1 in
        let zero_long : length (clusters text) ≡ 0 = omega arith in
        let empty = below.empty_line tables text width zero_long in
        let fit = subst (All (λ (line : Line). fits width (slice_range (line_clusters tables text) line.start line.end) ≡ true)) empty (below.lines_fit tables text width wide) in
        subst (All (IsLine tables width text)) (sym empty)
        (All-cons (IsLine tables width text) (record { start = 0; end = 0 }) []
        (line-stands (record { start = 0; end = 0 }) (omega arith) (omega arith) (fit 0 (record { start = 0; end = 0 }) (omega arith)) (inr (zero_long, refl, refl)))
        (All-nil (IsLine tables width text)))
  ]

-- the columns of a line that fits, by those of its clusters
pub hung-columns : (tables : TableValues) (width : ℕ) (text : List ℕ) (line : Line) → IsLine tables width text line
    → hung width (slice_range (own_columns tables text) line.start line.end) ≡ line_columns tables width text line
hung-columns tables width text line h =
    ap (hung width) (slice-map (line_clusters tables text) (λ c. c.columns) line.start line.end)
    ∙ hung-line width (slice_range (line_clusters tables text) line.start line.end) h.fits

length-group_firsts : (sizes levels : List ℕ) → length (group_firsts sizes levels) ≡ length sizes
length-group_firsts [] levels = refl
length-group_firsts (size ∷ sizes) levels = ap suc (length-group_firsts sizes (drop size levels))

-- a level for each cluster
pub length-levels : (tables : TableValues) (text levels : List ℕ) (para : ℕ) (line : List Span) (sizes : List ℕ) → length (levels_in_line tables text levels para line sizes) ≡ length sizes
length-levels tables text levels para line sizes = length-group_firsts sizes _
