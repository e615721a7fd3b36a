-- Which paragraphs a window needs: those that have a row of it.
use Rattle.std.proofs.Common.{◌≡◌, ℕ, ◌+◌, ◌-◌, ◌<◌, ◌≤◌, inl, inr, List, [], length, take, get_or, slice_range, refl, sym, arith}
use Rattle.std.proofs.lemmas.Bool.{cases_lt}
use Rattle.std.proofs.lemmas.Option.{slice_get-get_or}
use Rattle.std.specs.List.{concat}
use Rattle.std.specs.Prelude.{encode_utf8_all}
use Rattle.std.specs.Str.{IsUtf8}
use Rattle.bg_types.specs.declared.class.Base.{Base}
use Rattle.unicode_tables.specs.Tables.{TableValues}
use Rattle.paragraphs.specs.Paragraphs.{Paragraph, paragraphs}
use Rattle.cell_grid.specs.Rows.{DrawnRow}
use Rattle.cell_grid.specs.Grids.{grid_rows}
use Rattle.cell_grid.specs.Windows.{begins_by, row_at}
use Rattle.cell_grid.proofs.Interface.{last_below-within}
use Rattle.text_buffer.specs.Buffers.{bytes_in, paragraphs_in, text_in}
use Rattle.text_buffer.specs.Edits.{IsParagraphOf}
use Rattle.live_document.specs.Cost.{top_of, bottom_of, HasRow}
use Rattle.live_document.specs.Keeping.{KeptText, rows_of_text, rows_of_texts, IsKeptAt}
use Rattle.live_document.specs.LawsBelow.{LawsBelow}
use Rattle.live_document.specs.Showing.{IsRowOf}
use Rattle.live_document.proofs.Marks.{rows-none}
use Rattle.live_document.proofs.Stretches.{count-texts}
use Rattle.live_document.proofs.Windows.{count-paras, front-more, front-one, front-rises-by-one, all-rows, grid-row}

module _ (laws : LawsBelow) (tables : TableValues) (width : ℕ) (base : Base) (kept : KeptText) (at : IsKeptAt tables width base kept)
    (u : IsUtf8 (encode_utf8_all (text_in kept))) (few : bytes_in (text_in kept) ≤ 4_000_000)
    (place number : ℕ) (stands : IsParagraphOf (paragraphs_in kept) place number) where
  more : (i j : ℕ) → i ≤ j → length (rows_of_texts tables width base (take j (paragraphs_in kept))) ≡ length (rows_of_texts tables width base (take i (paragraphs_in kept))) + length (rows_of_texts tables width base (slice_range (paragraphs_in kept) i j))
  more = front-more laws tables width base kept at u few

  one : (n : ℕ) → n < length kept → length (rows_of_texts tables width base (take (n + 1) (paragraphs_in kept))) ≡ length (rows_of_texts tables width base (take n (paragraphs_in kept))) + length (rows_of_text tables width base (get_or (paragraphs_in kept) n []))
  one = front-one laws tables width base kept at u few

  rises : (n : ℕ) → n < length kept → length (rows_of_texts tables width base (take n (paragraphs_in kept))) < length (rows_of_texts tables width base (take (n + 1) (paragraphs_in kept)))
  rises = front-rises-by-one laws tables width base kept at u few

  abbrev grid : List DrawnRow
  grid = grid_rows tables width base (encode_utf8_all (text_in kept))

  inside : number < length kept
  inside = let size = count-texts kept in let there = stands.there in omega arith

  -- the row of the place in its paragraph
  abbrev own_rows : List DrawnRow
  own_rows = rows_of_text tables width base (get_or (paragraphs_in kept) number [])

  abbrev own_row : ℕ
  own_row = row_at own_rows (place - length (concat (take number (paragraphs_in kept))))

  own-has : IsRowOf tables width base (paragraphs_in kept) place number own_row (length own_rows)
  own-has =
      let here = one number inside in
      let some = rises number inside in
      record { is = refl; count = refl; within = last_below-within (begins_by own_rows (place - length (concat (take number (paragraphs_in kept))))) (length own_rows) (omega arith) }

  -- and in the grid
  stands-at : (row count : ℕ) → IsRowOf tables width base (paragraphs_in kept) place number row count
      → row_at grid place ≡ length (rows_of_texts tables width base (take number (paragraphs_in kept))) + row
  stands-at row count has =
      let d : Paragraph = record { text = []; first_byte = 0; first_place = 0 } in
      let paras = paragraphs tables (encode_utf8_all (text_in kept)) in
      let many = count-paras laws tables width base kept at u few in
      let is = slice_get-get_or paras number d (omega (arith, inside)) in
      grid-row laws tables width base kept at u few place 0 0 number number (number + 1) row count 0 0 (get_or paras number d) is stands (omega arith) (omega arith) (omega (arith, inside)) has
      (sym (rows-none tables width base (paragraphs_in kept) number)) (sym (rows-none tables width base (paragraphs_in kept) (number + 1)))
      (inl (omega arith)) (inl (omega (arith, has.within)))

  module _ (above beyond first last : ℕ) (top : HasRow tables width base (paragraphs_in kept) first (top_of place above grid))
      (bottom : HasRow tables width base (paragraphs_in kept) last (bottom_of place beyond grid)) where
    -- the place's paragraph is one of them
    pub own-needed : (first ≤ number) × (number ≤ last)
    own-needed =
        let g = stands-at own_row (length own_rows) own-has in
        let w = own-has.within in
        let own = one number inside in
        let all : length grid ≡ length (rows_of_texts tables width base (take (length kept) (paragraphs_in kept))) = all-rows laws tables width base kept at u few in
        let rest = more (number + 1) (length kept) (omega (arith, inside)) in
        let t = top.begun in
        let b = bottom.within in (
          elim (cases_lt number first) [ inl past ↦ (let m = more (number + 1) first (omega arith) in absurd (omega arith)) | inr low ↦ low ],
          elim (cases_lt last number) [ inl short ↦ (let m = more (last + 1) number (omega arith) in absurd (omega arith)) | inr high ↦ high ],
        )

    module _ (row count k : ℕ) (has : IsRowOf tables width base (paragraphs_in kept) place number row count) where
      -- so is one in front of it, while the rows between are too few
      pub up-needed : k < number → length (rows_of_texts tables width base (slice_range (paragraphs_in kept) (k + 1) number)) < above - row → (first ≤ k) × (k ≤ last)
      up-needed under wanted =
          let g = stands-at row count has in
          let t = top.begun in
          let a = more (k + 1) number (omega arith) in
          let r = rises k (omega (arith, inside)) in (
            elim (cases_lt k first) [ inl past ↦ (let m = more (k + 1) first (omega arith) in absurd (omega arith)) | inr low ↦ low ],
            omega (arith, own-needed.1),
          )

      -- and one behind it
      pub down-needed : number + 1 ≤ k → k < length kept → length (rows_of_texts tables width base (slice_range (paragraphs_in kept) (number + 1) k)) < beyond + row + 1 - count → (first ≤ k) × (k ≤ last)
      down-needed past there wanted =
          let g = stands-at row count has in
          let w = has.within in
          let c = has.count in
          let own = one number inside in
          let all : length grid ≡ length (rows_of_texts tables width base (take (length kept) (paragraphs_in kept))) = all-rows laws tables width base kept at u few in
          let a = more (number + 1) k past in
          let r = rises k there in
          let rest = more (k + 1) (length kept) (omega arith) in
          let b = bottom.within in (
            omega (arith, own-needed.0),
            elim (cases_lt last k) [ inl short ↦ (let m = more (last + 1) k (omega arith) in absurd (omega arith)) | inr high ↦ high ],
          )
