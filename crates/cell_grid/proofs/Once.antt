-- Each cluster is one entry.
use Rattle.std.proofs.Common.{◌≡◌, ℕ, ◌≤◌, List, [], ◌∷◌, ◌++◌, map, length, flat_map, slice_range, IsPermutation, refl, sym, ap, subst, ◌∙◌, arith, inl, inr}
use Rattle.std.proofs.lemmas.Bool.Decides.{leb_tells}
use Rattle.std.proofs.lemmas.List.{map-append, nil_from_length}
use Rattle.std.proofs.lemmas.List.Concat.{flat_map-cons, flat_map-append}
use Rattle.std.proofs.lemmas.List.Elements.{All-head, All-tail}
use Rattle.std.proofs.lemmas.List.Sorted.{IsPermutation-refl, IsPermutation-append, IsPermutation-map}
use Rattle.std.specs.List.{All}
use Rattle.std.specs.Str.{IsUtf8}
use Rattle.bg_types.specs.declared.class.Base.{Base}
use Rattle.unicode_tables.specs.Tables.{TableValues}
use Rattle.paragraphs.specs.Clusters.{clusters}
use Rattle.paragraphs.specs.Paragraphs.{Paragraph, paragraphs, StandsIn}
use Rattle.bidi_explicit.specs.Embedding.{paragraph_level, classes_of}
use Rattle.bidi_weak_neutral.specs.Levels.{levels_of}
use Rattle.line_break.specs.declared.line.Line.{Line}
use Rattle.line_break.specs.Lines.{lines}
use Rattle.line_break.specs.Ranges.{Follow}
use Rattle.paragraphs.specs.declared.span.Span.{Span}
use Rattle.cell_grid.specs.declared.entry.Entry.{Entry}
use Rattle.cell_grid.specs.LawsBelow.{LawsBelow}
use Rattle.cell_grid.specs.Spans.{spans, shifted_span}
use Rattle.cell_grid.specs.Rows.{DrawnRow, row_of, rows_of, shifted, shifted_entry}
use Rattle.cell_grid.specs.Outline.{IsLine}
use Rattle.cell_grid.specs.Grids.{DrawnGrid, paragraph_rows, IsDrawn}
use Rattle.cell_grid.specs.Laws.{text_spans, entry_spans}
use Rattle.cell_grid.proofs.Counting.{length-spans_of}
use Rattle.cell_grid.proofs.Slicing.{paragraph-utf8}
use Rattle.cell_grid.proofs.LineBounds.{joined-follow}
use Rattle.cell_grid.proofs.LinesOf.{IsLine-lines}
use Rattle.cell_grid.proofs.Drawn.{row-spans}

-- the spans of a row's entries
abbrev pub row_spans : DrawnRow → List Span
row_spans r = map (λ (e : Entry). e.span) r.entries

module _ (below : LawsBelow) (tables : TableValues) (width para : ℕ) (text levels : List ℕ) where
  lines-permute : (ls : List Line) → All (IsLine tables width text) ls
      → IsPermutation (flat_map (λ (line : Line). slice_range (spans text) line.start line.end) ls) (entry_spans (map (row_of tables width para text levels) ls))
  lines-permute [] h = IsPermutation-refl []
  lines-permute (line ∷ ls) h =
      let part : Line → List Span = λ (l : Line). slice_range (spans text) l.start l.end in
      subst (λ l. IsPermutation l (entry_spans (map (row_of tables width para text levels) (line ∷ ls)))) (sym (flat_map-cons part line ls))
      (subst (IsPermutation (part line ++ flat_map part ls)) (sym (flat_map-cons row_spans (row_of tables width para text levels line) (map (row_of tables width para text levels) ls)))
      (IsPermutation-append (part line) (row_spans (row_of tables width para text levels line)) (flat_map part ls) (entry_spans (map (row_of tables width para text levels) ls))
      (row-spans below tables width para text levels line (All-head (IsLine tables width text) line ls h))
      (lines-permute ls (All-tail (IsLine tables width text) line ls h))))

-- the lines join to the spans of all clusters
joined-spans : (below : LawsBelow) (tables : TableValues) (width : ℕ) (text : List ℕ) → flat_map (λ (line : Line). slice_range (spans text) line.start line.end) (lines tables text width) ≡ spans text
joined-spans below tables width text =
    let part : Line → List Span = λ (line : Line). slice_range (spans text) line.start line.end in
    let same = length-spans_of text in
    elim (leb_tells 1 (length (clusters text))) [
      | inl some ↦ joined-follow (spans text) (lines tables text width) 0 (subst (Follow 0 (lines tables text width)) (sym same) (below.lines_follow tables text width some.1))
      | inr none ↦
          let few = none.1 in
          let zero_long : length (clusters text) ≡ 0 = omega arith in
          ap (flat_map part) (below.empty_line tables text width zero_long) ∙ sym (nil_from_length (spans text) (same ∙ zero_long))
    ]

-- the clusters of a paragraph
pub paragraph-permutes : (below : LawsBelow) (tables : TableValues) (width : ℕ) (wide : 2 ≤ width) (base : Base) (text : List ℕ) (u : IsUtf8 text)
    → IsPermutation (spans text) (entry_spans (rows_of tables width base text))
paragraph-permutes below tables width wide base text u =
    subst (λ l. IsPermutation l (entry_spans (rows_of tables width base text))) (joined-spans below tables width text)
    (lines-permute below tables width (paragraph_level base (classes_of tables text)) text (levels_of tables base text) (lines tables text width)
    (IsLine-lines below tables text u width wide))

-- shifted rows have shifted spans
pub spans-shifted_entries : (i j : ℕ) (es : List Entry) → map (λ (e : Entry). e.span) (map (shifted_entry i j) es) ≡ map (shifted_span i j) (map (λ (e : Entry). e.span) es)
spans-shifted_entries i j [] = refl
spans-shifted_entries i j (e ∷ es) = ap (λ l. shifted_span i j e.span ∷ l) (spans-shifted_entries i j es)

spans-shifted : (i j : ℕ) (rows : List DrawnRow) → entry_spans (map (shifted i j) rows) ≡ map (shifted_span i j) (entry_spans rows)
spans-shifted i j [] = refl
spans-shifted i j (r ∷ rows) =
    flat_map-cons row_spans (shifted i j r) (map (shifted i j) rows)
    ∙ ap (λ l. l ++ entry_spans (map (shifted i j) rows)) (spans-shifted_entries i j r.entries)
    ∙ ap (λ l. map (shifted_span i j) (row_spans r) ++ l) (spans-shifted i j rows)
    ∙ sym (map-append (shifted_span i j) (row_spans r) (entry_spans rows))
    ∙ ap (map (shifted_span i j)) (sym (flat_map-cons row_spans r rows))

module _ (below : LawsBelow) (tables : TableValues) (width : ℕ) (wide : 2 ≤ width) (base : Base) (text : List ℕ) (u : IsUtf8 text) where
  paragraph_spans : Paragraph → List Span
  paragraph_spans p = map (shifted_span p.first_byte p.first_place) (spans p.text)

  paragraphs-permute : (ps : List Paragraph) → All (StandsIn text) ps
      → IsPermutation (flat_map (λ (p : Paragraph). map (shifted_span p.first_byte p.first_place) (spans p.text)) ps) (entry_spans (flat_map (paragraph_rows tables width base) ps))
  unfolding paragraph_spans
  paragraphs-permute [] h = IsPermutation-refl []
  paragraphs-permute (p ∷ ps) h =
      let stands = All-head (StandsIn text) p ps h in
      let rows = paragraph_rows tables width base in
      let own = subst (IsPermutation (paragraph_spans p)) (sym (spans-shifted p.first_byte p.first_place (rows_of tables width base p.text)))
      (IsPermutation-map (shifted_span p.first_byte p.first_place) (spans p.text) (entry_spans (rows_of tables width base p.text)) (paragraph-permutes below tables width wide base p.text (paragraph-utf8 text u p stands))) in
      subst (λ l. IsPermutation l (entry_spans (flat_map rows (p ∷ ps)))) (sym (flat_map-cons paragraph_spans p ps))
      (subst (IsPermutation (paragraph_spans p ++ flat_map paragraph_spans ps)) (sym (ap entry_spans (flat_map-cons rows p ps) ∙ flat_map-append row_spans (rows p) (flat_map rows ps)))
      (IsPermutation-append (paragraph_spans p) (entry_spans (rows p)) (flat_map paragraph_spans ps) (entry_spans (flat_map rows ps)) own
      (paragraphs-permute ps (All-tail (StandsIn text) p ps h))))

-- each cluster of each paragraph is one entry of one row
pub clusters-once : (below : LawsBelow) (g : DrawnGrid) → IsDrawn g → IsPermutation (text_spans g.tables g.text) (entry_spans g.rows)
clusters-once below g d =
    subst (λ rows. IsPermutation (text_spans g.tables g.text) (entry_spans rows)) (sym d.rows)
    (paragraphs-permute below g.tables d.width d.at_least d.base g.text d.utf8 (paragraphs g.tables g.text) (below.paragraphs_stand g.tables g.text d.utf8))
