-- Rows of paragraphs that are moved later in the text.
use Rattle.std.proofs.Common.{◌≡◌, ℕ, ◌+◌, List, [], ◌∷◌, ◌++◌, map, flat_map, refl, sym, ap, ◌∙◌, add_assoc}
use Rattle.std.proofs.lemmas.List.{map-append}
use Rattle.std.proofs.lemmas.List.Concat.{flat_map-cons}
use Rattle.bg_types.specs.declared.class.Base.{Base}
use Rattle.unicode_tables.specs.Tables.{TableValues}
use Rattle.paragraphs.specs.Paragraphs.{Paragraph}
use Rattle.paragraphs.specs.declared.span.Span.{Span}
use Rattle.cell_grid.specs.declared.entry.Entry.{Entry}
use Rattle.cell_grid.specs.Spans.{shifted_span}
use Rattle.cell_grid.specs.Rows.{DrawnRow, rows_of, shifted_entry, shifted}
use Rattle.cell_grid.specs.Grids.{paragraph_rows}
use Rattle.cell_grid.specs.Shifting.{shifted_paragraph}

-- to move twice is to move once by both
module _ (bytes places more_bytes more_places : ℕ) where
  span-twice : (s : Span) → shifted_span more_bytes more_places (shifted_span bytes places s) ≡ shifted_span (bytes + more_bytes) (places + more_places) s
  span-twice s =
      let make : ℕ → ℕ → ℕ → ℕ → Span = λ a b c d. record { first_byte = a; end_byte = b; first_place = c; end_place = d } in
      ap (λ a. make a (s.end_byte + bytes + more_bytes) (s.first_place + places + more_places) (s.end_place + places + more_places)) (add_assoc s.first_byte bytes more_bytes)
      ∙ ap (λ b. make (s.first_byte + (bytes + more_bytes)) b (s.first_place + places + more_places) (s.end_place + places + more_places)) (add_assoc s.end_byte bytes more_bytes)
      ∙ ap (λ c. make (s.first_byte + (bytes + more_bytes)) (s.end_byte + (bytes + more_bytes)) c (s.end_place + places + more_places)) (add_assoc s.first_place places more_places)
      ∙ ap (λ d. make (s.first_byte + (bytes + more_bytes)) (s.end_byte + (bytes + more_bytes)) (s.first_place + (places + more_places)) d) (add_assoc s.end_place places more_places)

  entries-twice : (es : List Entry) → map (shifted_entry more_bytes more_places) (map (shifted_entry bytes places) es) ≡ map (shifted_entry (bytes + more_bytes) (places + more_places)) es
  entries-twice [] = refl
  entries-twice (e ∷ es) =
      ap (λ s. record e { span = s } ∷ map (shifted_entry more_bytes more_places) (map (shifted_entry bytes places) es)) (span-twice e.span)
      ∙ ap (λ l. shifted_entry (bytes + more_bytes) (places + more_places) e ∷ l) (entries-twice es)

  row-twice : (r : DrawnRow) → shifted more_bytes more_places (shifted bytes places r) ≡ shifted (bytes + more_bytes) (places + more_places) r
  row-twice r =
      let make : ℕ → ℕ → List Entry → DrawnRow = λ a b es. record { first_place = a; last_place = b; para_level = r.para_level; entries = es; cells = r.cells } in
      let twice = map (shifted_entry more_bytes more_places) (map (shifted_entry bytes places) r.entries) in
      ap (λ a. make a (r.last_place + places + more_places) twice) (add_assoc r.first_place places more_places)
      ∙ ap (λ b. make (r.first_place + (places + more_places)) b twice) (add_assoc r.last_place places more_places)
      ∙ ap (make (r.first_place + (places + more_places)) (r.last_place + (places + more_places))) (entries-twice r.entries)

  rows-twice : (rows : List DrawnRow) → map (shifted more_bytes more_places) (map (shifted bytes places) rows) ≡ map (shifted (bytes + more_bytes) (places + more_places)) rows
  rows-twice [] = refl
  rows-twice (r ∷ rows) =
      ap (λ s. s ∷ map (shifted more_bytes more_places) (map (shifted bytes places) rows)) (row-twice r)
      ∙ ap (λ l. shifted (bytes + more_bytes) (places + more_places) r ∷ l) (rows-twice rows)

module _ (tables : TableValues) (width : ℕ) (base : Base) (bytes places : ℕ) where
  -- the rows of paragraphs moved later are theirs, moved as far
  pub rows-moved : (ps : List Paragraph)
      → flat_map (paragraph_rows tables width base) (map (shifted_paragraph bytes places) ps) ≡ map (shifted bytes places) (flat_map (paragraph_rows tables width base) ps)
  rows-moved [] = refl
  rows-moved (p ∷ ps) =
      let rows = paragraph_rows tables width base in
      flat_map-cons rows (shifted_paragraph bytes places p) (map (shifted_paragraph bytes places) ps)
      ∙ ap (λ l. l ++ flat_map rows (map (shifted_paragraph bytes places) ps)) (sym (rows-twice p.first_byte p.first_place bytes places (rows_of tables width base p.text)))
      ∙ ap (λ l. map (shifted bytes places) (rows p) ++ l) (rows-moved ps)
      ∙ sym (ap (map (shifted bytes places)) (flat_map-cons rows p ps) ∙ map-append (shifted bytes places) (rows p) (flat_map rows ps))
