-- The rows of a paragraph: their entries are the clusters of its lines.
use Rattle.std.proofs.Common.{◌≡◌, ℕ, ◌+◌, ◌-◌, ◌≤◌, List, [], ◌∷◌, map, length, drop, get_or, flat_map, slice_range, IsPermutation, sym, subst, arith}
use Rattle.std.proofs.lemmas.List.Concat.{flat_map-cons}
use Rattle.std.proofs.lemmas.List.Elements.{All-nil, All-head, All-tail, All-append, All-map, All-take, All-drop, All-weaker}
use Rattle.std.proofs.lemmas.List.Sorted.{IsPermutation-map, All-permutation}
use Rattle.std.specs.List.{All, range_with_len}
use Rattle.std.specs.Str.{IsUtf8}
use Rattle.bg_types.specs.declared.class.Base.{Base}
use Rattle.unicode_tables.specs.Tables.{TableValues}
use Rattle.paragraphs.specs.Text.{code_points}
use Rattle.paragraphs.specs.Clusters.{cluster_sizes}
use Rattle.paragraphs.specs.Paragraphs.{Paragraph, paragraphs, StandsIn}
use Rattle.bidi_explicit.specs.Embedding.{paragraph_level, classes_of}
use Rattle.bidi_weak_neutral.specs.Levels.{levels_of}
use Rattle.line_break.specs.declared.line.Line.{Line}
use Rattle.line_break.specs.Lines.{lines}
use Rattle.reorder.specs.VisualList.{visual_list}
use Rattle.paragraphs.specs.declared.span.Span.{Span}
use Rattle.cell_grid.specs.declared.entry.Entry.{Entry}
use Rattle.cell_grid.specs.LawsBelow.{LawsBelow}
use Rattle.cell_grid.specs.Spans.{spans, extent, shifted_span}
use Rattle.cell_grid.specs.Hanging.{line_columns}
use Rattle.cell_grid.specs.Rows.{DrawnRow, entries_from, start_column, levels_in_line, row_of, rows_of, shifted, shifted_entry}
use Rattle.cell_grid.specs.Shifting.{MayShift, MayShiftRow}
use Rattle.cell_grid.specs.Outline.{IsLine}
use Rattle.cell_grid.specs.Grids.{DrawnGrid, paragraph_rows, grid_rows, IsDrawn}
use Rattle.cell_grid.specs.Printable.{IsSlice}
use Rattle.cell_grid.proofs.Sides.{map-numbers, spans-entries_from}
use Rattle.cell_grid.proofs.Parts.{length-slice}
use Rattle.cell_grid.proofs.LinesOf.{length-levels, IsLine-lines}
use Rattle.cell_grid.proofs.Counting.{length-spans_of, length-sizes_of}
use Rattle.cell_grid.proofs.Slicing.{IsSpan, All-unmap, spans-slices, slice-in, paragraph-utf8}

module _ (below : LawsBelow) (tables : TableValues) (width para : ℕ) (text levels : List ℕ) (line : Line) (h : IsLine tables width text line) where
  line_spans : List Span
  line_spans = slice_range (spans text) line.start line.end

  line_levels : List ℕ
  line_levels = levels_in_line tables text levels para (slice_range (spans text) line.start line.end) (slice_range (cluster_sizes text) line.start line.end)

  length-line_levels : length line_levels ≡ length line_spans
  unfolding line_levels line_spans
  length-line_levels =
      let order = h.order in
      let within = h.within in
      let ns = length-spans_of text in
      let nz = length-sizes_of text in
      let a = length-levels tables text levels para (slice_range (spans text) line.start line.end) (slice_range (cluster_sizes text) line.start line.end) in
      let b = length-slice (spans text) line.start line.end order (omega arith) in
      let c = length-slice (cluster_sizes text) line.start line.end order (omega arith) in
      omega arith

  -- the entries are the line's clusters, in another order
  pub row-spans : IsPermutation (slice_range (spans text) line.start line.end) (map (λ (e : Entry). e.span) (row_of tables width para text levels line).entries)
  unfolding line_levels line_spans
  row-spans =
      let sp = slice_range (spans text) line.start line.end in
      let lv = levels_in_line tables text levels para (slice_range (spans text) line.start line.end) (slice_range (cluster_sizes text) line.start line.end) in
      let cols = line_columns tables width text line in
      let f : ℕ → Span = λ k. get_or sp k (extent []) in
      let entries = entries_from sp lv cols (start_column width para cols) (visual_list lv) in
      subst (λ l. IsPermutation l (map (λ (e : Entry). e.span) entries)) (map-numbers sp (extent []))
      (subst (IsPermutation (map f (range_with_len 0 (length sp)))) (sym (spans-entries_from sp lv cols (start_column width para cols) (visual_list lv)))
      (subst (λ n. IsPermutation (map f (range_with_len 0 n)) (map f (visual_list lv))) length-line_levels
      (IsPermutation-map f (range_with_len 0 (length lv)) (visual_list lv) (below.rearrangement lv))))

  -- what holds of each of the line's clusters holds of each entry
  pub each-entry : (Q : Span → Type 0) → All Q (spans text) → All (λ (e : Entry). Q e.span) (row_of tables width para text levels line).entries
  each-entry Q all =
      All-unmap Q (λ (e : Entry). e.span) (row_of tables width para text levels line).entries
      (All-permutation Q (slice_range (spans text) line.start line.end) (map (λ (e : Entry). e.span) (row_of tables width para text levels line).entries) row-spans
      (All-take Q (line.end - line.start) (drop line.start (spans text)) (All-drop Q line.start (spans text) all)))

-- ---- rows that may be shifted

module _ (below : LawsBelow) (tables : TableValues) (width : ℕ) (wide : 2 ≤ width) (base : Base) (text : List ℕ) (u : IsUtf8 text) where
  pub rows-each : (P : DrawnRow → Type 0)
      → ((line : Line) → IsLine tables width text line → P (row_of tables width (paragraph_level base (classes_of tables text)) text (levels_of tables base text) line))
      → All P (rows_of tables width base text)
  rows-each P f =
      All-map P (row_of tables width (paragraph_level base (classes_of tables text)) text (levels_of tables base text)) (lines tables text width)
      (All-weaker (IsLine tables width text) (λ line. P (row_of tables width (paragraph_level base (classes_of tables text)) text (levels_of tables base text) line)) f (lines tables text width)
      (IsLine-lines below tables text u width wide))

  pub rows-shift : (bytes places : ℕ) → bytes + length text ≤ 4_000_000 → places + length (code_points text) ≤ 4_000_000 → All (MayShiftRow bytes places) (rows_of tables width base text)
  rows-shift bytes places fit_bytes fit_places =
      rows-each (MayShiftRow bytes places) (λ line h.
      let order = h.stand.places in
      let within = h.stand.within in
      record {
        first_place = omega arith;
        last_place = omega arith;
        entries = each-entry below tables width (paragraph_level base (classes_of tables text)) text (levels_of tables base text) line h (MayShift bytes places)
            (All-weaker (IsSpan text) (MayShift bytes places) (λ s is.
            let end = is.slice.end.0 in
            let forward = is.slice.order in
            let some = is.some in
            let in_text = is.within in
            record { first_byte = omega arith; end_byte = omega arith; first_place = omega arith; end_place = omega arith }) (spans text) (spans-slices below text u));
      })

-- ---- rows that can be printed

pub All-flat_map : {X Y : Type 0} (P : Y → Type 0) (f : X → List Y) (xs : List X) → All (λ x. All P (f x)) xs → All P (flat_map f xs)
All-flat_map P f [] h = All-nil P
All-flat_map P f (x ∷ xs) h =
    subst (All P) (sym (flat_map-cons f x xs))
    (All-append P (f x) (flat_map f xs) (All-head (λ y. All P (f y)) x xs h) (All-flat_map P f xs (All-tail (λ y. All P (f y)) x xs h)))

-- what holds of each row of each paragraph, where it stands in the text
pub each-row : (below : LawsBelow) (tables : TableValues) (width : ℕ) (base : Base) (text : List ℕ) (u : IsUtf8 text) (P : DrawnRow → Type 0)
    → ((p : Paragraph) → StandsIn text p → All (λ r. P (shifted p.first_byte p.first_place r)) (rows_of tables width base p.text)) → All P (grid_rows tables width base text)
each-row below tables width base text u P f =
    All-flat_map P (paragraph_rows tables width base) (paragraphs tables text)
    (All-weaker (StandsIn text) (λ p. All P (paragraph_rows tables width base p)) (λ p h. All-map P (shifted p.first_byte p.first_place) (rows_of tables width base p.text) (f p h))
    (paragraphs tables text) (below.paragraphs_stand tables text u))

-- the entries of a grid are slices of its text
pub slices-rows : (below : LawsBelow) (g : DrawnGrid) → IsDrawn g → All (λ (r : DrawnRow). All (λ (e : Entry). IsSlice g.text e.span) r.entries) g.rows
slices-rows below g d =
    let Q : DrawnRow → Type 0 = λ r. All (λ (e : Entry). IsSlice g.text e.span) r.entries in
    subst (All Q) (sym d.rows)
    (each-row below g.tables d.width d.base g.text d.utf8 Q (λ p h.
    rows-each below g.tables d.width d.at_least d.base p.text (paragraph-utf8 g.text d.utf8 p h) (λ r. Q (shifted p.first_byte p.first_place r)) (λ line l.
    let para = paragraph_level d.base (classes_of g.tables p.text) in
    let levels = levels_of g.tables d.base p.text in
    let r = row_of g.tables d.width para p.text levels line in
    All-map (λ (e : Entry). IsSlice g.text e.span) (shifted_entry p.first_byte p.first_place) r.entries
    (each-entry below g.tables d.width para p.text levels line l (λ s. IsSlice g.text (shifted_span p.first_byte p.first_place s))
    (All-weaker (IsSpan p.text) (λ s. IsSlice g.text (shifted_span p.first_byte p.first_place s)) (slice-in g.text d.utf8 p h) (spans p.text)
    (spans-slices below p.text (paragraph-utf8 g.text d.utf8 p h)))))))
