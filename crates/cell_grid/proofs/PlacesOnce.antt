-- Each place of a row lies in exactly one entry.
use Rattle.std.proofs.Common.{◌≡◌, ℕ, suc, ◌+◌, ◌-◌, ◌<◌, List, [], ◌∷◌, map, length, take, drop, take-add, slice_range, IsPermutation, refl, sym, ap, subst, ◌∙◌, arith, inl, inr}
use Rattle.std.proofs.lemmas.Bool.Decides.{leb_tells}
use Rattle.std.proofs.lemmas.List.Elements.{All-nil, All-take, All-drop}
use Rattle.std.proofs.lemmas.List.Sorted.{IsPermutation-map}
use Rattle.std.specs.List.{All}
use Rattle.std.specs.Str.{IsUtf8}
use Rattle.unicode_tables.specs.Tables.{TableValues}
use Rattle.paragraphs.specs.Text.{code_points}
use Rattle.paragraphs.specs.Clusters.{clusters}
use Rattle.bidi_explicit.specs.Embedding.{paragraph_level, classes_of}
use Rattle.bidi_weak_neutral.specs.Levels.{levels_of}
use Rattle.line_break.specs.declared.line.Line.{Line}
use Rattle.paragraphs.specs.declared.span.Span.{Span}
use Rattle.cell_grid.specs.declared.entry.Entry.{Entry}
use Rattle.cell_grid.specs.LawsBelow.{LawsBelow}
use Rattle.cell_grid.specs.Spans.{span_at, spans_from, spans, extent, shifted_span}
use Rattle.cell_grid.specs.Rows.{row_of, shifted, shifted_entry}
use Rattle.cell_grid.specs.Outline.{IsLine}
use Rattle.cell_grid.specs.Grids.{DrawnGrid, IsDrawn}
use Rattle.cell_grid.specs.Laws.{HoldsPlacesOnce}
use Rattle.cell_grid.proofs.Standing.{bytes, points, points-append, same_spans, spans-range}
use Rattle.cell_grid.proofs.Parts.{part-first, part-last}
use Rattle.cell_grid.proofs.Slicing.{some-points, paragraph-utf8}
use Rattle.cell_grid.proofs.Drawn.{row-spans, rows-each, each-row}
use Rattle.cell_grid.proofs.Once.{spans-shifted_entries}
use Rattle.cell_grid.proofs.Holding.{once}

shifted-spans : (i j byte from : ℕ) (cs : List (List ℕ)) → map (shifted_span i j) (spans_from byte from cs) ≡ spans_from (byte + i) (from + j) cs
shifted-spans i j byte from [] = refl
shifted-spans i j byte from (c ∷ cs) =
    let n = length (code_points c) in
    let a : byte + length c + i ≡ byte + i + length c = omega arith in
    let b : from + n + j ≡ from + j + n = omega arith in
    ap (λ e. record { first_byte = byte + i; end_byte = e; first_place = from + j; end_place = from + n + j } ∷ map (shifted_span i j) (spans_from (byte + length c) (from + n) cs)) a
    ∙ ap (λ e. record { first_byte = byte + i; end_byte = byte + i + length c; first_place = from + j; end_place = e } ∷ map (shifted_span i j) (spans_from (byte + length c) (from + n) cs)) b
    ∙ ap (λ l. span_at (byte + i) (from + j) c ∷ l)
    (shifted-spans i j (byte + length c) (from + n) cs ∙ same_spans (byte + length c + i) (byte + i + length c) (from + n + j) (from + j + n) cs a b)

module _ (below : LawsBelow) (tables : TableValues) (width para : ℕ) (text levels : List ℕ) (u : IsUtf8 text) (line : Line) (h : IsLine tables width text line) (i j : ℕ) where
  -- its entries are the line's clusters, where they stand
  permuted : (byte from : ℕ) (mid : List (List ℕ)) → slice_range (spans text) line.start line.end ≡ spans_from byte from mid
      → IsPermutation (spans_from (byte + i) (from + j) mid) (map (λ (e : Entry). e.span) (map (shifted_entry i j) (row_of tables width para text levels line).entries))
  permuted byte from mid is =
      let entries = (row_of tables width para text levels line).entries in
      subst (λ l. IsPermutation l (map (λ (e : Entry). e.span) (map (shifted_entry i j) entries))) (ap (map (shifted_span i j)) is ∙ shifted-spans i j byte from mid)
      (subst (IsPermutation (map (shifted_span i j) (slice_range (spans text) line.start line.end))) (sym (spans-shifted_entries i j entries))
      (IsPermutation-map (shifted_span i j) (slice_range (spans text) line.start line.end) (map (λ (e : Entry). e.span) entries) (row-spans below tables width para text levels line h)))

  pub row-once : HoldsPlacesOnce (shifted i j (row_of tables width para text levels line))
  row-once =
      let cs = clusters text in
      let s = line.start in
      let e = line.end in
      let order = h.order in
      let r = shifted i j (row_of tables width para text levels line) in
      elim (leb_tells (suc s) e) [
        | inl some ↦
            let lt : s < e = some.1 in
            let mid = slice_range cs s e in
            let from = 0 + points (take s cs) in
            let byte = 0 + bytes (take s cs) in
            let first = part-first below text u s e h.order h.within (inl lt) in
            let last = part-last below text u s e h.order h.within (inl lt) in
            let k : s + (e - s) ≡ e = omega arith in
            let whole = ap (λ n. points (take n cs)) (sym k) ∙ ap points (take-add s (e - s) cs) ∙ points-append (take s cs) mid in
            once r (byte + i) (from + j) mid
            (All-take (λ (c : List ℕ). 0 < length (code_points c)) (e - s) (drop s cs) (All-drop (λ (c : List ℕ). 0 < length (code_points c)) s cs (some-points below text u)))
            (permuted byte from mid (spans-range s e 0 0 cs)) (omega arith) (omega arith)
        | inr none ↦
            let le = none.1 in
            let gap : e - s ≡ 0 = omega arith in
            let empty = ap (λ n. take n (drop s (spans text))) gap in
            let at = ap extent empty in
            let first = ap (λ (x : Span). x.first_place) at in
            let last = ap (λ (x : Span). x.end_place) at in
            once r (0 + i) (0 + j) [] (All-nil (λ (c : List ℕ). 0 < length (code_points c))) (permuted 0 0 [] empty) (omega arith) (omega arith)
      ]

-- each row of a grid
pub places-rows : (below : LawsBelow) (g : DrawnGrid) → IsDrawn g → All HoldsPlacesOnce g.rows
places-rows below g d =
    subst (All HoldsPlacesOnce) (sym d.rows)
    (each-row below g.tables d.width d.base g.text d.utf8 HoldsPlacesOnce (λ p h.
    let u = paragraph-utf8 g.text d.utf8 p h in
    rows-each below g.tables d.width d.at_least d.base p.text u (λ r. HoldsPlacesOnce (shifted p.first_byte p.first_place r)) (λ line l.
    row-once below g.tables d.width (paragraph_level d.base (classes_of g.tables p.text)) p.text (levels_of g.tables d.base p.text) u line l p.first_byte p.first_place)))
