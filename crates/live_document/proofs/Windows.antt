-- What is cut out of the rows that are kept is the window of the grid.
use Rattle.std.proofs.Common.{◌≡◌, ℕ, zero, suc, ◌+◌, ◌-◌, ◌<◌, ◌≤◌, ◌⊎◌, inl, inr, min, Bool, true, cond, List, [], ◌∷◌, ◌++◌, length, map, take, drop, get_or, slice_range, flat_map, Option, Some, None, refl, sym, ap, ap₂, subst, ◌∙◌, arith, append-nil, length-append}
use Rattle.std.proofs.lemmas.Bool.{cases_lt, le-leb, lt-leb}
use Rattle.std.proofs.lemmas.List.{length-map, drop_all, drop-append-le, take-append-le, length-drop, get_or-map, drop_more, take-append-drop, take_all, take-map}
use Rattle.std.proofs.lemmas.List.Concat.{flat_map-append, flat_map-cons}
use Rattle.std.proofs.lemmas.List.Edits.{split_between}
use Rattle.std.proofs.lemmas.List.Elements.{All-nil, All-cons, All-drop, All-take, All-weaker}
use Rattle.std.proofs.lemmas.List.Folds.{drop_split}
use Rattle.std.proofs.lemmas.List.Sums.{sum_by-cons}
use Rattle.std.proofs.lemmas.Option.{slice_get-get_or, slice_get_within, get_or_from_slice_get}
use Rattle.std.specs.List.{All, concat}
use Rattle.std.specs.Option.{option_map_or}
use Rattle.std.specs.Prelude.{slice_get, is_some, encode_utf8_all, nat_le, sum_by}
use Rattle.std.specs.Str.{IsUtf8}
use Rattle.bg_types.specs.declared.class.Base.{Base}
use Rattle.unicode_tables.specs.Tables.{TableValues}
use Rattle.paragraphs.specs.Text.{code_points}
use Rattle.paragraphs.specs.Paragraphs.{Paragraph, paragraphs, ParagraphsFollow}
use Rattle.cell_grid.specs.Rows.{DrawnRow, rows_of, shifted}
use Rattle.cell_grid.specs.Grids.{grid_of, paragraph_rows, IsDrawable}
use Rattle.cell_grid.specs.Laws.{RowsFollow}
use Rattle.cell_grid.specs.Shifting.{MayShiftRow}
use Rattle.cell_grid.specs.Windows.{last_below, begins_by, row_at, DrawnWindow, window_of, FirstPlacesRise, HasWindow}
use Rattle.cell_grid.proofs.Interface.{all-drawable, row_at-second, slice-parts}
use Rattle.text_buffer.specs.Buffers.{bytes_in, paragraphs_in, text_in}
use Rattle.text_buffer.specs.Edits.{IsParagraphOf}
use Rattle.live_document.specs.declared.shown.Shown.{Shown}
use Rattle.live_document.specs.Keeping.{Rows, KeptText, rows_at, rows_of_text, rows_of_texts, IsLaid, IsKeptAt, flags, is_kept}
use Rattle.live_document.specs.Cost.{top_of, bottom_of, HasRow}
use Rattle.live_document.specs.LawsBelow.{LawsBelow}
use Rattle.live_document.specs.Showing.{rows_from, window_in, IsRowOf}
use Rattle.live_document.proofs.Placing.{IsText, points_of, text-is, All-parts, slice-map, place-at, follow-drop, follow-take}
use Rattle.live_document.proofs.Beside.{rows_at-laid}
use Rattle.live_document.proofs.Marks.{slice-front, rows-down, rows-none}
use Rattle.live_document.proofs.Stretches.{count-texts, stretch-from, count-rows}
use Rattle.std.proofs.Math.Seq.{take-add}

-- ---- rows that stand later

begins-shifted : (bytes places q : ℕ) (rows : List DrawnRow) (k : ℕ) → begins_by (map (shifted bytes places) rows) (q + places) k ≡ begins_by rows q k
begins-shifted bytes places q [] k = refl
begins-shifted bytes places q (r ∷ rows) zero = same-test r.first_place q places
  where
    same-test : (a b c : ℕ) → nat_le (a + c) (b + c) ≡ nat_le a b
    same-test a b c = elim (cases_lt b a) [
      | inl above ↦ lt-leb (a + c) (b + c) (omega arith) ∙ sym (lt-leb a b above)
      | inr order ↦ le-leb (a + c) (b + c) (omega arith) ∙ sym (le-leb a b order)
    ]
begins-shifted bytes places q (r ∷ rows) (suc k) = begins-shifted bytes places q rows k

same-last : (f g : ℕ → Bool) → ((k : ℕ) → f k ≡ g k) → (n : ℕ) → last_below f n ≡ last_below g n
same-last f g same zero = refl
same-last f g same (suc n) = ap₂ (λ b m. cond b n m) (same n) (same-last f g same n)

row_at-shifted : (bytes places place : ℕ) (rows : List DrawnRow) → places ≤ place → row_at (map (shifted bytes places) rows) place ≡ row_at rows (place - places)
row_at-shifted bytes places place rows le =
    let e : place ≡ (place - places) + places = omega arith in
    ap (row_at (map (shifted bytes places) rows)) e
    ∙ ap (last_below (begins_by (map (shifted bytes places) rows) ((place - places) + places))) (length-map rows (shifted bytes places))
    ∙ same-last _ _ (begins-shifted bytes places (place - places) rows) (length rows)

rises-unshifted : (bytes places : ℕ) (rows : List DrawnRow) → FirstPlacesRise (map (shifted bytes places) rows) → FirstPlacesRise rows
rises-unshifted bytes places [] rises = tt
rises-unshifted bytes places (r ∷ []) rises = tt
rises-unshifted bytes places (r ∷ s ∷ rows) rises = let h = rises.0 in (omega arith, rises-unshifted bytes places (s ∷ rows) rises.1)

rises-tail : (r : DrawnRow) (rows : List DrawnRow) → FirstPlacesRise (r ∷ rows) → FirstPlacesRise rows
rises-tail r [] rises = tt
rises-tail r (s ∷ rows) rises = rises.1

pub rises-behind : (xs ys : List DrawnRow) → FirstPlacesRise (xs ++ ys) → FirstPlacesRise ys
rises-behind [] ys rises = rises
rises-behind (x ∷ xs) ys rises = rises-behind xs ys (rises-tail x (xs ++ ys) rises)

pub rises-front : (xs ys : List DrawnRow) → FirstPlacesRise (xs ++ ys) → FirstPlacesRise xs
rises-front [] ys rises = tt
rises-front (x ∷ []) ys rises = tt
rises-front (x ∷ y ∷ xs) ys rises = (rises.0, rises-front (y ∷ xs) ys rises.1)

pub first-begins : (rows : List DrawnRow) (from to place : ℕ) → RowsFollow from rows to → 0 < length rows → from ≤ place → begins_by rows place 0 ≡ true
first-begins [] from to place follow some le = absurd (omega arith)
first-begins (r ∷ rows) from to place follow some le = let e = follow.0 in le-leb r.first_place place (omega arith)

rises-count : (rows : List DrawnRow) (from to : ℕ) → RowsFollow from rows to → FirstPlacesRise rows → length rows + from ≤ to + 1
rises-count [] from to follow rises = omega arith
rises-count (r ∷ []) from to follow rises = let a = follow.0 in let b = follow.1 in let c = follow.2 in omega arith
rises-count (r ∷ s ∷ rows) from to follow rises =
    let a = follow.0 in
    let b = follow.2 in
    let c = b.0 in
    let d = rises.0 in
    let later = rises-count (s ∷ rows) r.last_place to follow.2 rises.1 in
    omega arith

-- ---- the paragraphs of what is kept

module _ (below : LawsBelow) (tables : TableValues) (width : ℕ) (base : Base) (kept : KeptText) (at : IsKeptAt tables width base kept)
    (u : IsUtf8 (encode_utf8_all (text_in kept))) (few : bytes_in (text_in kept) ≤ 4_000_000) where
  abbrev pub text : List ℕ
  text = encode_utf8_all (text_in kept)

  abbrev pub paras : List Paragraph
  paras = paragraphs tables (encode_utf8_all (text_in kept))

  abbrev pub rows : Paragraph → List DrawnRow
  rows q = paragraph_rows tables width base q

  pub texts-are : paragraphs_in kept ≡ points_of paras
  texts-are = at.split

  pub drawable : All IsDrawable paras
  drawable = all-drawable (encode_utf8_all (text_in kept)) u few paras (below.paragraphs_stand tables (encode_utf8_all (text_in kept)) u)

  pub texts : All IsText paras
  texts = All-weaker IsDrawable IsText (λ p h. h.utf8) paras drawable

  pub follow : ParagraphsFollow 0 0 paras
  follow = below.paragraphs_follow tables (encode_utf8_all (text_in kept)) u

  pub count-paras : length paras ≡ length kept
  count-paras = sym (length-map paras (λ (q : Paragraph). code_points q.text)) ∙ ap length (sym texts-are) ∙ count-texts kept

  front-rises : (i j : ℕ) → i ≤ j → length (concat (take i (points_of paras))) ≤ length (concat (take j (points_of paras)))
  front-rises i j le = concat-front (points_of paras) i j le
    where
      concat-front : (ts : List (List ℕ)) (i j : ℕ) → i ≤ j → length (concat (take i ts)) ≤ length (concat (take j ts))
      concat-front ts zero j le = omega arith
      concat-front [] (suc i) j le = omega arith
      concat-front (t ∷ ts) (suc i) zero le = absurd (omega arith)
      concat-front (t ∷ ts) (suc i) (suc j) le =
          let h = concat-front ts i j (omega arith) in
          let a = length-append t (concat (take i ts)) in
          let b = length-append t (concat (take j ts)) in
          omega arith

  pub follow-from : (k : ℕ) → ParagraphsFollow (bytes_in (concat (take k (points_of paras)))) (length (concat (take k (points_of paras)))) (drop k paras)
  follow-from k =
      let h = follow-drop 0 0 paras texts follow k in
      let b : 0 + bytes_in (concat (take k (points_of paras))) ≡ bytes_in (concat (take k (points_of paras))) = omega arith in
      let n : 0 + length (concat (take k (points_of paras))) ≡ length (concat (take k (points_of paras))) = omega arith in
      subst (λ m. ParagraphsFollow m (length (concat (take k (points_of paras)))) (drop k paras)) b
      (subst (λ m. ParagraphsFollow (0 + bytes_in (concat (take k (points_of paras)))) m (drop k paras)) n h)

  -- the rows from a paragraph on follow one another from its place
  rows-from : (k n : ℕ) → (to : ℕ) × RowsFollow (length (concat (take k (points_of paras)))) (flat_map rows (take n (drop k paras))) to
  rows-from k n = (
    length (concat (take k (points_of paras))) + sum_by (λ (p : Paragraph). length (code_points p.text)) (take n (drop k paras)),
    below.rows_follow tables width base (bytes_in (concat (take k (points_of paras)))) (length (concat (take k (points_of paras)))) (take n (drop k paras)) at.at_least
        (All-take IsText n (drop k paras) (All-drop IsText k paras texts))
        (follow-take (bytes_in (concat (take k (points_of paras)))) (length (concat (take k (points_of paras)))) (drop k paras) n (follow-from k)),
  )

  -- those of paragraphs behind a place begin behind it
  rows-past : (k place : ℕ) → place < length (concat (take k (points_of paras))) → All (λ (r : DrawnRow). place < r.first_place) (flat_map rows (drop k paras))
  rows-past k place before =
      below.rows_behind place (length (concat (take k (points_of paras)))) _ (flat_map rows (drop k paras))
      (below.rows_follow tables width base (bytes_in (concat (take k (points_of paras)))) (length (concat (take k (points_of paras)))) (drop k paras) at.at_least
      (All-drop IsText k paras texts) (follow-from k)) before

  rises : FirstPlacesRise (flat_map rows paras)
  rises = below.places_rise (grid_of tables width base (encode_utf8_all (text_in kept)))
      (record { width = width; base = base; at_least = at.at_least; at_most = at.at_most; utf8 = u; size = few; rows = refl })

  -- a paragraph by its number
  module _ (n : ℕ) (q : Paragraph) (is : slice_get paras n ≡ Some q) where
    within : n < length paras
    within = slice_get_within paras n q is

    pub own-text : rows_of_text tables width base (get_or (paragraphs_in kept) n []) ≡ rows_of tables width base q.text
    own-text =
        ap (λ ts. rows_of_text tables width base (get_or ts n [])) texts-are
        ∙ ap (rows_of_text tables width base) (get_or-map (λ (p : Paragraph). code_points p.text) paras n q [] within ∙ ap (λ (p : Paragraph). code_points p.text) (get_or_from_slice_get paras n q q is))
        ∙ ap (rows_of tables width base) (text-is q own-utf8)
      where
        own-utf8 : IsUtf8 q.text
        own-utf8 = subst IsText (get_or_from_slice_get paras n q q is) (texts n q (slice_get_within paras n q is))

    pub own-first : q.first_place ≡ length (concat (take n (paragraphs_in kept)))
    own-first =
        let h = place-at 0 0 paras texts follow n q is in
        let e = h.1 in
        let f = ap (λ ts. length (concat (take n ts))) texts-are in
        omega arith

    pub own-byte : q.first_byte ≡ bytes_in (concat (take n (paragraphs_in kept)))
    own-byte =
        let h = place-at 0 0 paras texts follow n q is in
        let e = h.0 in
        let f = ap (λ ts. bytes_in (concat (take n ts))) texts-are in
        omega arith

    pub own-drawable : IsDrawable q
    own-drawable = subst IsDrawable (get_or_from_slice_get paras n q q is) (drawable n q within)

    parted : flat_map rows paras ≡ flat_map rows (take n paras) ++ (rows q ++ flat_map rows (drop (n + 1) paras))
    parted =
        let f = rows in
        ap (flat_map f) (sym (take-append-drop n paras)) ∙ flat_map-append f (take n paras) (drop n paras)
        ∙ ap (λ t. flat_map f (take n paras) ++ t)
        (ap (flat_map f) (drop_more paras n q within ∙ ap (λ (p : Paragraph). p ∷ drop (n + 1) paras) (get_or_from_slice_get paras n q q is))
        ∙ flat_map-cons f q (drop (n + 1) paras))

    here-rises : FirstPlacesRise (rows q)
    here-rises =
        rises-front (rows q) (flat_map rows (drop (n + 1) paras))
        (rises-behind (flat_map rows (take n paras)) (rows q ++ flat_map rows (drop (n + 1) paras)) (subst FirstPlacesRise parted rises))

    pub own-rises : FirstPlacesRise (rows_of tables width base q.text)
    own-rises = rises-unshifted q.first_byte q.first_place (rows_of tables width base q.text) here-rises

    here-follows : (to : ℕ) × RowsFollow q.first_place (rows q) to × (to ≡ q.first_place + length (code_points q.text))
    here-follows =
        let h = below.rows_follow tables width base q.first_byte q.first_place (q ∷ []) at.at_least
        (All-cons IsText q [] own-drawable.utf8 (All-nil IsText)) (refl, refl, tt) in
        let to = q.first_place + sum_by (λ (p : Paragraph). length (code_points p.text)) (q ∷ []) in
        let one = sum_by-cons (λ (p : Paragraph). length (code_points p.text)) q [] in
        let all : sum_by (λ (p : Paragraph). length (code_points p.text)) (q ∷ []) ≡ length (code_points q.text) = omega arith in
        (to, subst (λ l. RowsFollow q.first_place l to) (flat_map-cons rows q [] ∙ append-nil (rows q)) h, ap (λ m. q.first_place + m) all)

    -- there are no more of them than places, and one
    pub own-few : length (rows_of tables width base q.text) ≤ 4_000_001
    own-few =
        let f = here-follows in
        let c = rises-count (rows q) q.first_place f.0 f.1 here-rises in
        let n = length-map (rows_of tables width base q.text) (shifted q.first_byte q.first_place) in
        let e = f.2 in
        let d = own-drawable.places in
        omega arith

    pub own-some : 0 < length (rows q)
    own-some =
        let h = below.some_rows tables width base (q ∷ []) (omega arith) in
        let e = ap length (flat_map-cons rows q [] ∙ append-nil (rows q)) in
        omega arith

    pub own-begins : (place : ℕ) → q.first_place ≤ place → begins_by (rows q) place 0 ≡ true
    own-begins place le = let f = here-follows in first-begins (rows q) q.first_place f.0 place f.1 own-some le

    pub own-begun : (place : ℕ) → q.first_place ≤ place → begins_by (rows_of tables width base q.text) (place - q.first_place) 0 ≡ true
    own-begun place le =
        let e : place ≡ (place - q.first_place) + q.first_place = omega arith in
        sym (begins-shifted q.first_byte q.first_place (place - q.first_place) (rows_of tables width base q.text) 0)
        ∙ ap (λ m. begins_by (rows q) m 0) (sym e) ∙ own-begins place le

    pub own-row_at : (place : ℕ) → q.first_place ≤ place → row_at (rows q) place ≡ row_at (rows_of tables width base q.text) (place - q.first_place)
    own-row_at place le = row_at-shifted q.first_byte q.first_place place (rows_of tables width base q.text) le

  pub few-at : (n : ℕ) → n < length kept → length (rows_of_text tables width base (get_or (paragraphs_in kept) n [])) ≤ 4_000_001
  few-at n here =
      let d : Paragraph = record { text = []; first_byte = 0; first_place = 0 } in
      let is = slice_get-get_or paras n d (omega (arith, count-paras)) in
      let e = ap length (own-text n (get_or paras n d) is) in
      let f = own-few n (get_or paras n d) is in
      omega arith

  -- the rows of some paragraphs by their texts
  stretch-rows : (i j : ℕ) → length (flat_map rows (slice_range paras i j)) ≡ length (rows_of_texts tables width base (slice_range (paragraphs_in kept) i j))
  stretch-rows i j =
      count-rows tables width base (slice_range paras i j) (All-take IsText (j - i) (drop i paras) (All-drop IsText i paras texts))
      ∙ ap (λ ts. length (rows_of_texts tables width base ts)) (sym (slice-map (λ (p : Paragraph). code_points p.text) paras i j))
      ∙ ap (λ ts. length (rows_of_texts tables width base (slice_range ts i j))) (sym texts-are)

  -- how many rows stand in front of a paragraph
  pub front-more : (i j : ℕ) → i ≤ j → length (rows_of_texts tables width base (take j (paragraphs_in kept))) ≡ length (rows_of_texts tables width base (take i (paragraphs_in kept))) + length (rows_of_texts tables width base (slice_range (paragraphs_in kept) i j))
  front-more i j order =
      let texts = paragraphs_in kept in
      let f = rows_of_text tables width base in
      let e : j ≡ i + (j - i) = omega arith in
      ap (λ n. length (flat_map f (take n texts))) e
      ∙ ap (λ l. length (flat_map f l)) (take-add i (j - i) texts)
      ∙ ap length (flat_map-append f (take i texts) (take (j - i) (drop i texts)))
      ∙ length-append (flat_map f (take i texts)) (flat_map f (take (j - i) (drop i texts)))

  pub front-one : (n : ℕ) → n < length kept → length (rows_of_texts tables width base (take (n + 1) (paragraphs_in kept))) ≡ length (rows_of_texts tables width base (take n (paragraphs_in kept))) + length (rows_of_text tables width base (get_or (paragraphs_in kept) n []))
  front-one n here =
      let texts = paragraphs_in kept in
      let size = count-texts kept in
      let a = front-more n (n + 1) (omega arith) in
      let b = rows-down tables width base texts n n (omega arith) (omega arith) in
      let c = rows-none tables width base texts n in
      omega arith

  -- no paragraph is without a row
  pub front-rises-by-one : (n : ℕ) → n < length kept → length (rows_of_texts tables width base (take n (paragraphs_in kept))) < length (rows_of_texts tables width base (take (n + 1) (paragraphs_in kept)))
  front-rises-by-one n here =
      let d : Paragraph = record { text = []; first_byte = 0; first_place = 0 } in
      let at = slice_get-get_or paras n d (omega (arith, count-paras)) in
      let p = get_or paras n d in
      let some = own-some n p at in
      let one = front-one n here in
      let same = ap length (own-text n p at) in
      let many = length-map (rows_of tables width base p.text) (shifted p.first_byte p.first_place) in
      omega arith

  front-are : (n : ℕ) → length (flat_map rows (take n paras)) ≡ length (rows_of_texts tables width base (take n (paragraphs_in kept)))
  front-are n =
      count-rows tables width base (take n paras) (All-take IsText n paras texts)
      ∙ ap (λ ts. length (rows_of_texts tables width base ts)) (sym (take-map (λ (p : Paragraph). code_points p.text) n paras))
      ∙ ap (λ ts. length (rows_of_texts tables width base (take n ts))) (sym texts-are)

  pub all-rows : length (flat_map rows paras) ≡ length (rows_of_texts tables width base (take (length kept) (paragraphs_in kept)))
  all-rows = ap (λ l. length (flat_map rows l)) (sym (take_all (length kept) paras (omega (arith, count-paras)))) ∙ front-are (length kept)

  -- ---- the window

  module _ (place above beyond number first end row count up down : ℕ) (q : Paragraph) (is : slice_get paras number ≡ Some q)
      (stands : IsParagraphOf (paragraphs_in kept) place number) (low : first ≤ number) (high : number < end) (last : end ≤ length kept)
      (has : IsRowOf tables width base (paragraphs_in kept) place number row count)
      (ups : up ≡ length (rows_of_texts tables width base (slice_range (paragraphs_in kept) first number)))
      (downs : down ≡ length (rows_of_texts tables width base (slice_range (paragraphs_in kept) (number + 1) end)))
      (enough_up : (above - row ≤ up) ⊎ (first ≡ 0)) (enough_down : (beyond + row + 1 - count ≤ down) ⊎ (end ≡ length kept)) where
    place_is : q.first_place ≤ place
    place_is = let e = own-first number q is in let h = stands.begun in omega arith

    stretch-is : flat_map rows (slice_range paras first end) ≡ flat_map rows (slice_range paras first number) ++ (rows q ++ flat_map rows (slice_range paras (number + 1) end))
    stretch-is =
        let w = slice_get_within paras number q is in
        let one : slice_range paras number end ≡ q ∷ slice_range paras (number + 1) end =
        slice-front paras number end q w high ∙ ap (λ (p : Paragraph). p ∷ slice_range paras (number + 1) end) (get_or_from_slice_get paras number q q is) in
        ap (flat_map rows) (slice-parts paras first number end low (omega arith) ∙ ap (λ t. slice_range paras first number ++ t) one)
        ∙ flat_map-append rows (slice_range paras first number) (q ∷ slice_range paras (number + 1) end)
        ∙ ap (λ t. flat_map rows (slice_range paras first number) ++ t) (flat_map-cons rows q (slice_range paras (number + 1) end))

    grid-is : flat_map rows paras ≡ flat_map rows (take first paras) ++ (flat_map rows (slice_range paras first end) ++ flat_map rows (drop end paras))
    grid-is =
        ap (flat_map rows) (split_between paras first end (omega arith))
        ∙ flat_map-append rows (take first paras) (slice_range paras first end ++ drop end paras)
        ∙ ap (λ t. flat_map rows (take first paras) ++ t) (flat_map-append rows (slice_range paras first end) (drop end paras))

    own-count : length (rows q) ≡ count
    own-count = length-map (rows_of tables width base q.text) (shifted q.first_byte q.first_place) ∙ ap length (sym (own-text number q is)) ∙ sym has.count

    own-row : row_at (rows q) place ≡ row
    own-row =
        own-row_at number q is place place_is
        ∙ ap (row_at (rows_of tables width base q.text)) (ap (λ n. place - n) (own-first number q is))
        ∙ ap (λ l. row_at l (place - length (concat (take number (paragraphs_in kept))))) (sym (own-text number q is)) ∙ sym has.is

    -- the rows behind the paragraph begin behind the place
    behind : All (λ (r : DrawnRow). place < r.first_place) (flat_map rows (drop (number + 1) paras))
    behind = elim (cases_lt (number + 1) (length paras)) [
      | inl more ↦
          (let size = count-texts kept in
          let h = stands.last (omega (arith, count-paras)) in
          let e = ap (λ ts. length (concat (take (number + 1) ts))) texts-are in
          rows-past (number + 1) place (omega arith))
      | inr none ↦ subst (λ l. All (λ (r : DrawnRow). place < r.first_place) (flat_map rows l)) (sym (drop_all (number + 1) paras none)) (All-nil (λ (r : DrawnRow). place < r.first_place))
    ]

    behind-parts : All (λ (r : DrawnRow). place < r.first_place) (flat_map rows (slice_range paras (number + 1) end)) × All (λ (r : DrawnRow). place < r.first_place) (flat_map rows (drop end paras))
    behind-parts =
        All-parts (λ (r : DrawnRow). place < r.first_place) (flat_map rows (slice_range paras (number + 1) end)) (flat_map rows (drop end paras))
        (subst (All (λ (r : DrawnRow). place < r.first_place))
        (ap (flat_map rows) (drop_split paras (number + 1) end (omega arith)) ∙ flat_map-append rows (slice_range paras (number + 1) end) (drop end paras)) behind)

    ups-is : length (flat_map rows (slice_range paras first number)) ≡ up
    ups-is = stretch-rows first number ∙ sym ups

    downs-is : length (flat_map rows (slice_range paras (number + 1) end)) ≡ down
    downs-is = stretch-rows (number + 1) end ∙ sym downs

    stretch-count : length (flat_map rows (slice_range paras first end)) ≡ up + (count + down)
    stretch-count =
        let e = ap length stretch-is in
        let a = length-append (flat_map rows (slice_range paras first number)) (rows q ++ flat_map rows (slice_range paras (number + 1) end)) in
        let b = length-append (rows q) (flat_map rows (slice_range paras (number + 1) end)) in
        let c = ups-is in
        let d = downs-is in
        let f = own-count in
        omega arith

    -- the row of the place, in the stretch
    row-is : row_at (flat_map rows (slice_range paras first end)) place ≡ up + row
    row-is =
        ap (λ l. row_at l place) stretch-is
        ∙ row_at-second (flat_map rows (slice_range paras first number)) (rows q) (flat_map rows (slice_range paras (number + 1) end)) place (own-begins number q is place place_is) behind-parts.0
        ∙ ap₂ (λ m n. m + n) ups-is own-row

    begun : begins_by (flat_map rows (slice_range paras first end)) place 0 ≡ true
    begun =
        let h = rows-from first (end - first) in
        let some = stretch-count in
        let w = has.within in
        let e = ap (λ ts. length (concat (take first ts))) texts-are in
        let order = front-rises first number low in
        let b = stands.begun in
        let f = ap (λ ts. length (concat (take number ts))) texts-are in
        first-begins (flat_map rows (slice_range paras first end)) (length (concat (take first (points_of paras)))) h.0 place h.1 (omega arith) (omega arith)

    has-window : HasWindow (flat_map rows (take first paras)) (flat_map rows (slice_range paras first end)) (flat_map rows (drop end paras)) above beyond place
    has-window = record {
      begun = begun;
      past = behind-parts.1;
      up = elim enough_up [
        | inl some ↦ inl (let e = row-is in omega arith)
        | inr none ↦ inr (ap (λ k. flat_map rows (take k paras)) none)
      ];
      down = elim enough_down [
        | inl some ↦ inl (let e = row-is in let f = stretch-count in let w = has.within in omega arith)
        | inr none ↦ inr (ap (flat_map rows) (drop_all end paras (omega (arith, count-paras))))
      ];
    }

    pub grid-row : row_at (flat_map rows paras) place ≡ length (rows_of_texts tables width base (take number (paragraphs_in kept))) + row
    grid-row =
        ap (λ l. row_at l place) (parted number q is)
        ∙ row_at-second (flat_map rows (take number paras)) (rows q) (flat_map rows (drop (number + 1) paras)) place (own-begins number q is place place_is) behind
        ∙ ap₂ (λ m n. m + n) (front-are number) own-row

    -- the window's first row is one of the first paragraph that was reached
    pub top-has : (first < number → length (rows_of_texts tables width base (slice_range (paragraphs_in kept) (first + 1) number)) < above - row)
        → HasRow tables width base (paragraphs_in kept) first (top_of place above (flat_map rows paras))
    top-has needed =
        let size = count-texts kept in
        let i = grid-row in
        let to_number = front-more first number low in
        let rises = front-rises-by-one first (omega arith) in
        record {
          there = omega arith;
          begun = elim enough_up [
            | inl some ↦ omega arith
            | inr none ↦ (let z = ap (λ k. length (rows_of_texts tables width base (take k (paragraphs_in kept)))) none in omega arith)
          ];
          within = elim (cases_lt first number) [
            | inl before ↦ (let n = needed before in let m = front-more (first + 1) number (omega arith) in omega arith)
            | inr here ↦ (let e : first ≡ number = omega arith in let f = ap (λ k. length (rows_of_texts tables width base (take (k + 1) (paragraphs_in kept)))) e in let own = front-one number (omega arith) in let w = has.within in let c = has.count in omega arith)
          ];
        }

    -- and its last row one of the last
    pub bottom-has : (number + 1 < end → length (rows_of_texts tables width base (slice_range (paragraphs_in kept) (number + 1) (end - 1))) < beyond + row + 1 - count)
        → HasRow tables width base (paragraphs_in kept) (end - 1) (bottom_of place beyond (flat_map rows paras))
    bottom-has needed =
        let size = count-texts kept in
        let i = grid-row in
        let all = all-rows in
        let w = has.within in
        let c = has.count in
        let own = front-one number (omega arith) in
        let to_end = front-more (number + 1) end (omega arith) in
        let rest = front-more end (length kept) last in
        let last_one : (end - 1) + 1 ≡ end = omega arith in
        let last_front = ap (λ k. length (rows_of_texts tables width base (take k (paragraphs_in kept)))) last_one in
        let rises = front-rises-by-one (end - 1) (omega arith) in
        record {
          there = omega arith;
          begun = elim (cases_lt (number + 1) end) [
            | inl before ↦ (let n = needed before in let m = front-more (number + 1) (end - 1) (omega arith) in omega arith)
            | inr here ↦ (let e : end - 1 ≡ number = omega arith in let f = ap (λ k. length (rows_of_texts tables width base (take k (paragraphs_in kept)))) e in omega arith)
          ];
          within = elim enough_down [
            | inl some ↦ omega arith
            | inr none ↦ (let z = ap (λ k. length (rows_of_texts tables width base (take k (paragraphs_in kept)))) none in omega arith)
          ];
        }

    pub window-cut : ((k : ℕ) → first ≤ k → k < end → is_kept (flags kept) k ≡ true) → (s : Shown) → s.first ≡ first → s.skip ≡ up + row - above → s.count ≡ min (up + (count + down)) (up + row + beyond + 1) - (up + row - above)
        → s.number ≡ up + row - (up + row - above)
        → (window_in kept s ≡ window_of above beyond place (flat_map rows paras)) × (s.skip + s.count ≤ length (rows_from kept s.first))
    window-cut there s at_first skip many number_is =
        let st = stretch-from tables width base kept paras first end texts-are texts (follow-from first) (All-drop IsText first paras texts)
        (All-drop (IsLaid tables width base) first kept at.laid) (omega arith) last there in
        let rest = st.0 in
        let from : rows_from kept s.first ≡ flat_map rows (slice_range paras first end) ++ rest = ap (rows_from kept) at_first ∙ st.1 in
        let size = stretch-count in
        let w = has.within in
        let i = up + row in
        let stop = min (up + (count + down)) (up + row + beyond + 1) in
        let make : List DrawnRow → ℕ → DrawnWindow = λ l n. record { rows = l; number = n } in
        let left = length-drop (i - above) (flat_map rows (slice_range paras first end)) in
        let cut : take s.count (drop s.skip (rows_from kept s.first)) ≡ take (stop - (i - above)) (drop (i - above) (flat_map rows (slice_range paras first end))) =
        ap₂ (λ m n. take m (drop n (rows_from kept s.first))) many skip
        ∙ ap (λ l. take (stop - (i - above)) (drop (i - above) l)) from
        ∙ ap (take (stop - (i - above))) (drop-append-le (i - above) (flat_map rows (slice_range paras first end)) rest (omega arith))
        ∙ take-append-le (stop - (i - above)) (drop (i - above) (flat_map rows (slice_range paras first end))) rest (omega arith) in
        let whole : window_of above beyond place (flat_map rows paras) ≡ make (take (stop - (i - above)) (drop (i - above) (flat_map rows (slice_range paras first end)))) (i - (i - above)) =
        ap (window_of above beyond place) grid-is
        ∙ below.in_stretch (flat_map rows (take first paras)) (flat_map rows (slice_range paras first end)) (flat_map rows (drop end paras)) above beyond place has-window
        ∙ ap₂ (λ m n. make (slice_range (flat_map rows (slice_range paras first end)) (m - above) (min n (m + beyond + 1))) (m - (m - above))) row-is stretch-count in
        let total = ap length from ∙ length-append (flat_map rows (slice_range paras first end)) rest in
        (ap₂ make cut number_is ∙ sym whole, omega arith)

  -- the rows that are kept of a paragraph may be shifted to where it stands
  pub kept-may_shift : (n : ℕ) (q : Paragraph) → slice_get paras n ≡ Some q → is_kept (flags kept) n ≡ true → All (MayShiftRow q.first_byte q.first_place) (rows_at kept n)
  kept-may_shift n q is there =
      let d = own-drawable n q is in
      subst (All (MayShiftRow q.first_byte q.first_place)) (sym (rows_at-laid tables width base kept at.laid n there ∙ own-text n q is))
      (below.may_shift tables width base q.text at.at_least d.utf8 q.first_byte q.first_place d.bytes d.places)

-- a paragraph that has kept rows has its flag
pub some-flag : (kept : KeptText) (n : ℕ) → 0 < length (rows_at kept n) → is_kept (flags kept) n ≡ true
some-flag [] n some = absurd (omega arith)
some-flag (p ∷ kept) zero some = beside p.kept some
  where
    beside : (o : Option Rows) → 0 < length (option_map_or (λ (rows : Rows). rows) o []) → is_some o ≡ true
    beside None some = absurd (omega arith)
    beside (Some rows) some = refl
some-flag (p ∷ kept) (suc n) some = some-flag kept n some
