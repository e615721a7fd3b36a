-- What is printed of rows that are kept.
use Rattle.std.proofs.Common.{◌≡◌, ℕ, ◌+◌, ◌<◌, ◌≤◌, Bool, true, false, Some, List, [], ◌++◌, length, get_or, take, drop, refl, sym, ap, ap₂, subst, ◌∙◌, arith, take-append-drop}
use Rattle.std.proofs.lemmas.List.{length-take-le}
use Rattle.std.proofs.lemmas.List.Folds.{drop_split}
use Rattle.std.proofs.lemmas.Option.{slice_get-get_or, slice_get_past, slice_get_within}
use Rattle.std.specs.List.{All, concat}
use Rattle.std.specs.Option.{option_map_or}
use Rattle.std.specs.Prelude.{slice_get, encode_utf8_all}
use Rattle.std.specs.Str.{IsUtf8}
use Rattle.bg_types.specs.declared.class.Base.{Base}
use Rattle.unicode_tables.specs.Tables.{TableValues}
use Rattle.paragraphs.specs.Paragraphs.{Paragraph, paragraphs, StandsIn}
use Rattle.cell_grid.specs.Rows.{DrawnRow, shifted}
use Rattle.cell_grid.specs.Grids.{DrawnGrid}
use Rattle.cell_grid.specs.Print.{own_sizes, row_text, printed_row, printed_sizes}
use Rattle.cell_grid.specs.Printable.{AreSlices}
use Rattle.cell_grid.specs.Windows.{DrawnWindow}
use Rattle.cell_grid.proofs.Interface.{all_at}
use Rattle.rga_tree.specs.TextOf as desk_text
use Rattle.desk_replica.specs.Desk.{Desk}
use Rattle.text_buffer.specs.Buffers.{Standing, bytes_in, text_in}
use Rattle.live_document.specs.declared.shown.Shown.{Shown}
use Rattle.live_document.specs.Documents.{IsLive}
use Rattle.live_document.specs.Keeping.{Rows, KeptText, rows_at, IsKeptAt}
use Rattle.live_document.specs.LawsBelow.{LawsBelow}
use Rattle.live_document.specs.Showing.{rows_from, window_in, shown_in, there_sizes, there_text}
use Rattle.live_document.proofs.Beside.{rows_at-laid}
use Rattle.live_document.proofs.Stretches.{front-texts}
use Rattle.live_document.proofs.Windows.{own-text, own-first, own-byte, own-drawable, some-flag}
use Rattle.live_document.proofs.Cursors.{rows_at-there}
use Rattle.live_document.proofs.Spots.{row-there, row-in_window}

-- ---- the row there

module _ (below : LawsBelow) (tables : TableValues) (width : ℕ) (base : Base) (kept : KeptText) (at : IsKeptAt tables width base kept)
    (u : IsUtf8 (encode_utf8_all (text_in kept))) (few : bytes_in (text_in kept) ≤ 4_000_000)
    (n : ℕ) (q : Paragraph) (is : slice_get (paragraphs tables (encode_utf8_all (text_in kept))) n ≡ Some q) where
  abbrev text : List ℕ
  text = encode_utf8_all (text_in kept)

  module _ (k : ℕ) (row : DrawnRow) (there : slice_get (rows_at kept n) k ≡ Some row) where
    some : 0 < length (rows_at kept n)
    some = let within = slice_get_within (rows_at kept n) k row there in omega arith

    -- a row that is kept of a paragraph is drawn of its text
    pub own-slices : AreSlices q.text row
    own-slices =
        all_at (AreSlices q.text) (rows_at kept n) k row
        (subst (All (AreSlices q.text)) (sym (rows_at-laid tables width base kept at.laid n (some-flag kept n some) ∙ own-text below tables width base kept at u few n q is))
        (below.slices tables width base q.text at.at_least (own-drawable below tables width base kept at u few n q is).utf8)) there

    -- what is seen of a row, its print or the sizes in it, which is alike in a longer text
    module _ (seen : List ℕ → DrawnRow → List ℕ)
        (alike : (before inner after : List ℕ) (places : ℕ) (row : DrawnRow) → AreSlices inner row → seen (before ++ (inner ++ after)) (shifted (length before) places row) ≡ seen inner row) where
      -- where it stands it is seen as in its paragraph
      own-alike : seen text (shifted q.first_byte q.first_place row) ≡ seen q.text row
      own-alike =
          let stands = all_at (StandsIn text) (paragraphs tables text) n q (below.paragraphs_stand tables text u) is in
          let end = q.first_byte + length q.text in
          let order : q.first_byte ≤ end = omega arith in
          let before = take q.first_byte text in
          let after = drop end text in
          let size = length-take-le q.first_byte text stands.start.0 in
          let whole : text ≡ before ++ (q.text ++ after) =
          sym (take-append-drop q.first_byte text)
          ∙ ap (λ t. before ++ t) (drop_split text q.first_byte end order ∙ ap (λ t. t ++ after) (sym stands.bytes)) in
          ap (λ t. seen t (shifted q.first_byte q.first_place row)) whole
          ∙ ap (λ m. seen (before ++ (q.text ++ after)) (shifted m q.first_place row)) (sym size)
          ∙ alike before q.text after q.first_place row own-slices

      pub there-alike : option_map_or (seen text) (slice_get (rows_from kept n) k) [] ≡ seen q.text row
      there-alike =
          let byte = own-byte below tables width base kept at u few n q is ∙ ap (λ ts. bytes_in (concat ts)) (sym (front-texts kept n)) in
          let place = own-first below tables width base kept at u few n q is ∙ ap (λ ts. length (concat ts)) (sym (front-texts kept n)) in
          ap (λ o. option_map_or (seen text) o []) (row-there kept n k row (rows_at-there kept n some) there ∙ ap₂ (λ m p. Some (shifted m p row)) (sym byte) (sym place))
          ∙ own-alike

-- ---- the rows that are shown

module _ (tables : TableValues) (kept : KeptText) (s : Shown) where
  -- the one that is next at a cursor is that with this number
  module _ (c : Standing Rows) (p : c.paragraphs ≡ kept) (row number : ℕ) (within : number < s.count) (same : drop row (rows_from c.paragraphs c.number) ≡ drop (s.skip + number) (rows_from kept s.first)) where
    shown-row : slice_get (window_in kept s).rows number ≡ slice_get (rows_from c.paragraphs c.number) row
    shown-row = row-in_window (rows_from c.paragraphs c.number) (rows_from kept s.first) row s.skip s.count number same within

    pub shown-there : printed_row (shown_in tables kept s) number ≡ there_text tables c.paragraphs c.number row
    shown-there =
        ap (λ o. option_map_or (row_text tables (encode_utf8_all (text_in kept))) o []) shown-row
        ∙ ap (λ (k : KeptText). option_map_or (row_text tables (encode_utf8_all (text_in k))) (slice_get (rows_from c.paragraphs c.number) row) []) (sym p)

    pub sizes-there : printed_sizes (shown_in tables kept s) number ≡ there_sizes tables c.paragraphs c.number row
    sizes-there =
        ap (λ o. option_map_or (own_sizes tables (encode_utf8_all (text_in kept))) o []) shown-row
        ∙ ap (λ (k : KeptText). option_map_or (own_sizes tables (encode_utf8_all (text_in k))) (slice_get (rows_from c.paragraphs c.number) row) []) (sym p)

-- a row, where one is asked for
pub a_row : DrawnRow
a_row = record { first_place = 0; last_place = 0; para_level = 0; entries = []; cells = [] }

-- what a row prints is a piece of the whole print
pub row-piece : (g : DrawnGrid) (number : ℕ) (own : List ℕ) → number < length g.rows → printed_row g number ≡ own → row_text g.tables g.text (get_or g.rows number a_row) ≡ own
row-piece g number own within is = sym (ap (λ o. option_map_or (row_text g.tables g.text) o []) (slice_get-get_or g.rows number a_row within)) ∙ is

-- ---- of a document

none-seen : (seen : DrawnRow → List ℕ) (number : ℕ) → option_map_or seen (slice_get [] number) [] ≡ []
none-seen seen number = ap (λ o. option_map_or seen o []) (slice_get_past [] number (omega arith))

-- a row, and the sizes in it, are seen in the desk's text
pub live-seen : (seen : List ℕ → DrawnRow → List ℕ) (desk : Desk) (tables : TableValues) (width : ℕ) (base : Base) (behind : Bool) (kept : KeptText) (s : Shown) (held number : ℕ)
    → IsLive desk tables width base behind kept s held
    → option_map_or (seen (encode_utf8_all (text_in kept))) (slice_get (window_in kept s).rows number) [] ≡ option_map_or (seen (encode_utf8_all (desk_text.text desk.set))) (slice_get (window_in kept s).rows number) []
live-seen seen desk tables width base true kept s held number live =
    let none = live.unshown refl in
    ap (λ (w : DrawnWindow). option_map_or (seen (encode_utf8_all (text_in kept))) (slice_get w.rows number) []) none
    ∙ none-seen (seen (encode_utf8_all (text_in kept))) number ∙ sym (none-seen (seen (encode_utf8_all (desk_text.text desk.set))) number)
    ∙ sym (ap (λ (w : DrawnWindow). option_map_or (seen (encode_utf8_all (desk_text.text desk.set))) (slice_get w.rows number) []) none)
live-seen seen desk tables width base false kept s held number live =
    ap (λ points. option_map_or (seen (encode_utf8_all points)) (slice_get (window_in kept s).rows number) []) (live.text_is refl)
