-- A row prints the same where its paragraph stands in a longer text, and so a text prints what its paragraphs do.
use Rattle.std.proofs.Common.{◌≡◌, ℕ, zero, suc, ◌+◌, ◌-◌, ◌≤◌, List, [], ◌∷◌, ◌++◌, map, length, take, drop, slice_get, slice_range, flat_map, Some, refl, sym, ap, ap₂, ◌∙◌, arith}
use Rattle.std.proofs.lemmas.List.{drop-drop, drop_at, drop-append-le, take-append-drop, take-append-le, length-drop, length-take}
use Rattle.std.proofs.lemmas.List.Concat.{flat_map-cons, flat_map-append}
use Rattle.std.proofs.lemmas.List.Elements.{All-head, All-tail, All-weaker}
use Rattle.std.specs.List.{All}
use Rattle.std.specs.Str.{IsUtf8}
use Rattle.bg_types.specs.declared.class.Base.{Base}
use Rattle.unicode_tables.specs.Tables.{TableValues}
use Rattle.paragraphs.specs.Text.{code_points}
use Rattle.paragraphs.specs.Paragraphs.{Paragraph, paragraphs, StandsIn}
use Rattle.bidi_explicit.specs.Embedding.{paragraph_level, classes_of}
use Rattle.bidi_weak_neutral.specs.Levels.{levels_of}
use Rattle.cell_grid.specs.declared.entry.Entry.{Entry}
use Rattle.cell_grid.specs.declared.cell.Cell.{Cell}
use Rattle.cell_grid.specs.declared.cell.Cell.TheVariants.{Blank, Head, Tail}
use Rattle.cell_grid.specs.LawsBelow.{LawsBelow}
use Rattle.cell_grid.specs.Spans.{spans}
use Rattle.cell_grid.specs.Rows.{DrawnRow, rows_of, shifted, shifted_entry}
use Rattle.cell_grid.specs.Grids.{paragraph_rows}
use Rattle.cell_grid.specs.Print.{cluster_text, entry_text, text_over, own_text, cell_text, printed_paragraph, row_text, shown}
use Rattle.cell_grid.specs.Printable.{IsSlice, AreSlices}
use Rattle.cell_grid.proofs.Slicing.{IsSpan, spans-slices, paragraph-utf8}
use Rattle.cell_grid.proofs.Drawn.{each-entry, rows-each}

-- the entries of a paragraph's rows are slices of its text
pub rows-slices : (below : LawsBelow) (tables : TableValues) (width : ℕ) (base : Base) (text : List ℕ) → 2 ≤ width → IsUtf8 text
    → All (AreSlices text) (rows_of tables width base text)
rows-slices below tables width base text wide u =
    rows-each below tables width wide base text u (AreSlices text) (λ line l.
    each-entry below tables width (paragraph_level base (classes_of tables text)) text (levels_of tables base text) line l (IsSlice text)
    (All-weaker (IsSpan text) (IsSlice text) (λ s is. is.slice) (spans text) (spans-slices below text u)))

-- a slice of a part is one of the whole
slice-inside : (before text after : List ℕ) (from to : ℕ) → from ≤ to → to ≤ length text
    → slice_range (before ++ (text ++ after)) (from + length before) (to + length before) ≡ slice_range text from to
slice-inside before text after from to order within =
    let n = length-drop from text in
    let here : from + length before ≡ length before + from = omega arith in
    let wide : to + length before - (from + length before) ≡ to - from = omega arith in
    ap₂ take wide
    (ap (λ k. drop k (before ++ (text ++ after))) here
    ∙ sym (drop-drop from (length before) (before ++ (text ++ after)))
    ∙ ap (drop from) (drop_at before (text ++ after) (length before) refl)
    ∙ drop-append-le from text after (omega arith))
    ∙ take-append-le (to - from) (drop from text) after (omega arith)

module _ (tables : TableValues) (before text after : List ℕ) (places : ℕ) where
  abbrev whole : List ℕ
  whole = before ++ (text ++ after)

  abbrev moved : Entry → Entry
  moved = shifted_entry (length before) places

  entry-alike : (e : Entry) → IsSlice text e.span → entry_text tables whole (Some (moved e)) ≡ entry_text tables text (Some e)
  entry-alike e is =
      ap (λ bytes. cluster_text tables e.level e.columns (code_points bytes)) (slice-inside before text after e.span.first_byte e.span.end_byte is.order is.end.0)

  entries-alike : (es : List Entry) → All (λ (e : Entry). IsSlice text e.span) es → (n : ℕ)
      → entry_text tables whole (slice_get (map moved es) n) ≡ entry_text tables text (slice_get es n)
  entries-alike [] are n = refl
  entries-alike (e ∷ es) are zero = entry-alike e (All-head (λ (e : Entry). IsSlice text e.span) e es are)
  entries-alike (e ∷ es) are (suc n) = entries-alike es (All-tail (λ (e : Entry). IsSlice text e.span) e es are) n

  cell-alike : (es : List Entry) → All (λ (e : Entry). IsSlice text e.span) es → (cell : Cell)
      → cell_text tables whole (map moved es) cell ≡ cell_text tables text es cell
  cell-alike es are Blank = refl
  cell-alike es are (Head n) = entries-alike es are n
  cell-alike es are (Tail n) = refl

  cells-alike : (es : List Entry) → All (λ (e : Entry). IsSlice text e.span) es → (cells : List Cell)
      → flat_map (cell_text tables whole (map moved es)) cells ≡ flat_map (cell_text tables text es) cells
  cells-alike es are [] = refl
  cells-alike es are (c ∷ cells) =
      flat_map-cons (cell_text tables whole (map moved es)) c cells
      ∙ ap₂ (λ a b. a ++ b) (cell-alike es are c) (cells-alike es are cells)
      ∙ sym (flat_map-cons (cell_text tables text es) c cells)

  pub row-alike : (r : DrawnRow) → AreSlices text r → row_text tables whole (shifted (length before) places r) ≡ row_text tables text r
  row-alike r are = ap (λ printed. printed ++ 10 ∷ []) (cells-alike r.entries are r.cells)

  pub sizes-alike : (es : List Entry) → All (λ (e : Entry). IsSlice text e.span) es
      → map (λ (e : Entry). length (own_text tables whole e)) (map moved es) ≡ map (λ (e : Entry). length (own_text tables text e)) es
  sizes-alike [] are = refl
  sizes-alike (e ∷ es) are =
      ap₂ (λ (n : ℕ) (ns : List ℕ). n ∷ ns)
      (ap (λ shown. length (text_over e.columns shown)) (entry-alike e (All-head (λ (e : Entry). IsSlice text e.span) e es are)))
      (sizes-alike es (All-tail (λ (e : Entry). IsSlice text e.span) e es are))

-- a text is what stands before a paragraph of it, the paragraph, and what stands behind
around : (text : List ℕ) (p : Paragraph) → StandsIn text p → text ≡ take p.first_byte text ++ (p.text ++ drop (length p.text) (drop p.first_byte text))
around text p stand =
    let rest = drop p.first_byte text in
    let long : p.first_byte + length p.text - p.first_byte ≡ length p.text = omega arith in
    let own : p.text ≡ take (length p.text) rest = stand.bytes ∙ ap (λ n. take n rest) long in
    sym (take-append-drop p.first_byte text)
    ∙ ap (λ l. take p.first_byte text ++ l) (sym (take-append-drop (length p.text) rest) ∙ ap (λ l. l ++ drop (length p.text) rest) (sym own))

module _ (below : LawsBelow) (tables : TableValues) (width : ℕ) (base : Base) (wide : 2 ≤ width) (text : List ℕ) (utf8 : IsUtf8 text) where
  module _ (p : Paragraph) (stand : StandsIn text p) where
    row-there : (r : DrawnRow) → AreSlices p.text r → row_text tables text (shifted p.first_byte p.first_place r) ≡ row_text tables p.text r
    row-there r are =
        let before = take p.first_byte text in
        let after = drop (length p.text) (drop p.first_byte text) in
        let n = length-take p.first_byte text in
        let long : p.first_byte ≡ length before = omega (arith, n, stand.start.0) in
        ap (λ whole. row_text tables whole (shifted p.first_byte p.first_place r)) (around text p stand)
        ∙ ap (λ k. row_text tables (before ++ (p.text ++ after)) (shifted k p.first_place r)) long
        ∙ row-alike tables before p.text after p.first_place r are

    rows-there : (rows : List DrawnRow) → All (AreSlices p.text) rows
        → flat_map (row_text tables text) (map (shifted p.first_byte p.first_place) rows) ≡ flat_map (row_text tables p.text) rows
    rows-there [] are = refl
    rows-there (r ∷ rows) are =
        ap₂ (λ a b. a ++ b) (row-there r (All-head (AreSlices p.text) r rows are)) (rows-there rows (All-tail (AreSlices p.text) r rows are))

  paragraphs-there : (ps : List Paragraph) → All (StandsIn text) ps
      → flat_map (row_text tables text) (flat_map (paragraph_rows tables width base) ps) ≡ flat_map (λ (p : Paragraph). printed_paragraph tables width base p.text) ps
  paragraphs-there [] stand = refl
  paragraphs-there (p ∷ ps) stand =
      let here = All-head (StandsIn text) p ps stand in
      flat_map-append (row_text tables text) (paragraph_rows tables width base p) (flat_map (paragraph_rows tables width base) ps)
      ∙ ap₂ (λ a b. a ++ b)
      (rows-there p here (rows_of tables width base p.text) (rows-slices below tables width base p.text wide (paragraph-utf8 text utf8 p here)))
      (paragraphs-there ps (All-tail (StandsIn text) p ps stand))

  pub paragraphs-alike : shown tables width base text ≡ flat_map (λ (p : Paragraph). printed_paragraph tables width base p.text) (paragraphs tables text)
  paragraphs-alike = paragraphs-there (paragraphs tables text) (below.paragraphs_stand tables text utf8)
