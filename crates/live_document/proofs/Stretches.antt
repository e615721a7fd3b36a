-- Rows that are kept of a stretch of paragraphs are the rows of the text's grid.
use Rattle.std.proofs.Common.{◌≡◌, ℕ, zero, suc, ◌+◌, ◌-◌, ◌<◌, ◌≤◌, true, None, List, [], ◌∷◌, ◌++◌, length, map, take, drop, get_or, slice_range, flat_map, refl, sym, ap, ap₂, subst, ◌∙◌, arith, append_assoc, append-nil, length-append}
use Rattle.std.proofs.lemmas.List.{take-map, drop-map, length-map, length-drop, drop_more, take_more}
use Rattle.std.proofs.lemmas.List.Elements.{All-head, All-tail}
use Rattle.std.specs.List.{All, concat}
use Rattle.std.specs.Prelude.{is_some}
use Rattle.std.specs.Str.{IsUtf8}
use Rattle.bg_types.specs.declared.class.Base.{Base}
use Rattle.unicode_tables.specs.Tables.{TableValues}
use Rattle.paragraphs.specs.Text.{code_points}
use Rattle.paragraphs.specs.Paragraphs.{Paragraph, ParagraphsFollow}
use Rattle.cell_grid.specs.Rows.{DrawnRow, rows_of, shifted}
use Rattle.cell_grid.specs.Grids.{paragraph_rows}
use Rattle.text_buffer.specs.Buffers.{KeptParagraph, bytes_in, paragraphs_in, text_in}
use Rattle.live_document.specs.Keeping.{Rows, KeptText, rows_of_text, rows_of_texts, IsLaid, rows_beside, rows_at, flags, is_kept}
use Rattle.live_document.specs.Showing.{rows_behind, rows_from}
use Rattle.live_document.proofs.Beside.{rows_at-laid}
use Rattle.live_document.proofs.Placing.{IsText, points_of, text-is, bytes-both}

-- the paragraphs in front are those of the text
pub front-texts : (kept : KeptText) (n : ℕ) → paragraphs_in (take n kept) ≡ take n (paragraphs_in kept)
front-texts kept n = sym (take-map (λ (p : KeptParagraph Rows). p.points) n kept)

pub texts-behind : (kept : KeptText) (n : ℕ) → paragraphs_in (drop n kept) ≡ drop n (paragraphs_in kept)
texts-behind kept n = sym (drop-map (λ (p : KeptParagraph Rows). p.points) n kept)

flags-behind : (kept : KeptText) (n k : ℕ) → is_kept (flags (drop n kept)) k ≡ is_kept (flags kept) (n + k)
flags-behind kept zero k = let e : k ≡ 0 + k = omega arith in ap (is_kept (flags kept)) e
flags-behind [] (suc n) k = refl
flags-behind (p ∷ kept) (suc n) k =
    let e : suc (n + k) ≡ suc n + k = omega arith in flags-behind kept n k ∙ ap (is_kept (flags (p ∷ kept))) e

pub count-texts : (kept : KeptText) → length (paragraphs_in kept) ≡ length kept
count-texts kept = length-map kept (λ (p : KeptParagraph Rows). p.points)

pub count-flags : (kept : KeptText) → length (flags kept) ≡ length kept
count-flags kept = length-map kept (λ (p : KeptParagraph Rows). is_some p.kept)

-- ---- one paragraph after the other, whatever is kept

rows_behind-sums : (b c p q : ℕ) (kept : KeptText) → b ≡ c → p ≡ q → rows_behind b p kept ≡ rows_behind c q kept
rows_behind-sums b c p q kept e f = ap₂ (λ m n. rows_behind m n kept) e f

-- the rows from a paragraph on are its own and those from the next one on
pub rows_from-next : (kept : KeptText) (n : ℕ) → n < length kept
    → rows_from kept n ≡ map (shifted (bytes_in (text_in (take n kept))) (length (text_in (take n kept)))) (rows_at kept n) ++ rows_from kept (n + 1)
rows_from-next kept n within =
    let d : KeptParagraph Rows = record { points = []; kept = None } in
    let p = get_or kept n d in
    let rest = drop_more kept n d within in
    let front = ap (λ l. concat (paragraphs_in l)) (take_more kept n d within) ∙ text-push (take n kept) p in
    let bytes = ap bytes_in front ∙ bytes-both (text_in (take n kept)) p.points in
    let places = ap length front ∙ length-append (text_in (take n kept)) p.points in
    ap (rows_behind (bytes_in (text_in (take n kept))) (length (text_in (take n kept)))) rest
    ∙ ap₂ (λ own later. map (shifted (bytes_in (text_in (take n kept))) (length (text_in (take n kept)))) own ++ later)
    (sym (own-rows kept n d within))
    (rows_behind-sums _ _ _ _ (drop (n + 1) kept) (sym bytes) (sym places))
  where
    text-push : (ps : KeptText) (p : KeptParagraph Rows) → text_in (ps ++ p ∷ []) ≡ text_in ps ++ p.points
    text-push [] p = append-nil p.points
    text-push (q ∷ ps) p = ap (λ t. q.points ++ t) (text-push ps p) ∙ sym (append_assoc q.points (text_in ps) p.points)

    own-rows : (ps : KeptText) (n : ℕ) (d : KeptParagraph Rows) → n < length ps → rows_at ps n ≡ rows_beside (get_or ps n d)
    own-rows [] n d within = absurd (omega arith)
    own-rows (q ∷ ps) zero d within = refl
    own-rows (q ∷ ps) (suc n) d within = own-rows ps n d (omega arith)

pub rows_from-none : (kept : KeptText) (n : ℕ) → length kept ≤ n → rows_from kept n ≡ []
rows_from-none kept n past = ap (rows_behind (bytes_in (text_in (take n kept))) (length (text_in (take n kept)))) (none kept n past)
  where
    none : (ps : KeptText) (n : ℕ) → length ps ≤ n → drop n ps ≡ []
    none [] zero past = refl
    none [] (suc n) past = refl
    none (q ∷ ps) zero past = absurd (omega arith)
    none (q ∷ ps) (suc n) past = none ps n (omega arith)

-- ---- paragraphs whose rows are kept

module _ (tables : TableValues) (width : ℕ) (base : Base) where
  own : (b p : ℕ) (k : KeptParagraph Rows) (kept : KeptText) (q : Paragraph) → k.points ≡ code_points q.text → IsUtf8 q.text → q.first_byte ≡ b → q.first_place ≡ p
      → All (IsLaid tables width base) (k ∷ kept) → is_some k.kept ≡ true
      → map (shifted b p) (rows_beside k) ≡ paragraph_rows tables width base q
  own b p k kept q points u byte place all there =
      let rows = rows_at-laid tables width base (k ∷ kept) all 0 there
      ∙ ap (rows_of_text tables width base) points ∙ ap (rows_of tables width base) (text-is q u) in
      ap (map (shifted b p)) rows ∙ ap₂ (λ m n. map (shifted m n) (rows_of tables width base q.text)) (sym byte) (sym place)

  -- the rows of the first n, if they are kept, stand in front of all
  pub stretch : (b p n : ℕ) (kept : KeptText) (qs : List Paragraph) → paragraphs_in kept ≡ points_of qs → All IsText qs → ParagraphsFollow b p qs
      → All (IsLaid tables width base) kept → n ≤ length kept → ((k : ℕ) → k < n → is_kept (flags kept) k ≡ true)
      → (rest : List DrawnRow) × (rows_behind b p kept ≡ flat_map (paragraph_rows tables width base) (take n qs) ++ rest)
  stretch b p zero kept qs e u follow all within there = (rows_behind b p kept, refl)
  stretch b p (suc n) [] qs e u follow all within there = absurd (omega arith)
  stretch b p (suc n) (k ∷ kept) [] e u follow all within there = absurd (let h : length (paragraphs_in (k ∷ kept)) ≡ 0 = ap length e in omega arith)
  stretch b p (suc n) (k ∷ kept) (q ∷ qs) e u follow all within there =
      let points : k.points ≡ code_points q.text = ap (λ l. get_or l 0 []) e in
      let text = All-head IsText q qs u in
      let size : bytes_in k.points ≡ length q.text = ap bytes_in points ∙ ap length (text-is q text) in
      let count : length k.points ≡ length (code_points q.text) = ap length points in
      let later = subst (λ m. ParagraphsFollow m (p + length k.points) qs) (ap (λ m. b + m) (sym size))
      (subst (λ m. ParagraphsFollow (b + length q.text) m qs) (ap (λ m. p + m) (sym count)) follow.2) in
      let more = stretch (b + bytes_in k.points) (p + length k.points) n kept qs (ap (drop 1) e) (All-tail IsText q qs u) later
      (All-tail (IsLaid tables width base) k kept all) (omega arith) (λ j below. there (suc j) (omega arith)) in
      let f = paragraph_rows tables width base in
      let first = own b p k kept q points text follow.0 follow.1 all (there 0 (omega arith)) in (
        more.0,
        ap₂ (λ x y. x ++ y) first more.1 ∙ sym (append_assoc (f q) (flat_map f (take n qs)) more.0),
      )

  -- as many rows as their texts have
  pub count-rows : (qs : List Paragraph) → All IsText qs → length (flat_map (paragraph_rows tables width base) qs) ≡ length (rows_of_texts tables width base (points_of qs))
  count-rows [] u = refl
  count-rows (q ∷ qs) u =
      let f = paragraph_rows tables width base in
      let g = rows_of_text tables width base in
      let a = length-append (f q) (flat_map f qs) in
      let b = length-append (g (code_points q.text)) (flat_map g (points_of qs)) in
      let c = length-map (rows_of tables width base q.text) (shifted q.first_byte q.first_place) in
      let d = ap (λ t. length (rows_of tables width base t)) (text-is q (All-head IsText q qs u)) in
      let later = count-rows qs (All-tail IsText q qs u) in
      omega arith

  -- the same from a paragraph on
  pub stretch-from : (kept : KeptText) (qs : List Paragraph) (from to : ℕ) → paragraphs_in kept ≡ points_of qs → All IsText qs
      → ParagraphsFollow (bytes_in (concat (take from (points_of qs)))) (length (concat (take from (points_of qs)))) (drop from qs) → All IsText (drop from qs)
      → All (IsLaid tables width base) (drop from kept) → from ≤ to → to ≤ length kept → ((k : ℕ) → from ≤ k → k < to → is_kept (flags kept) k ≡ true)
      → (rest : List DrawnRow) × (rows_from kept from ≡ flat_map (paragraph_rows tables width base) (slice_range qs from to) ++ rest)
  stretch-from kept qs from to e u follow v all order within there =
      let front : text_in (take from kept) ≡ concat (take from (points_of qs)) = ap concat (front-texts kept from ∙ ap (take from) e) in
      let behind = texts-behind kept from ∙ ap (drop from) e ∙ drop-map (λ (q : Paragraph). code_points q.text) from qs in
      let size = length-drop from kept in
      let bytes : bytes_in (text_in (take from kept)) ≡ bytes_in (concat (take from (points_of qs))) = ap bytes_in front in
      let places : length (text_in (take from kept)) ≡ length (concat (take from (points_of qs))) = ap length front in
      let s = stretch (bytes_in (concat (take from (points_of qs)))) (length (concat (take from (points_of qs)))) (to - from) (drop from kept) (drop from qs) behind v follow all (omega arith)
      (λ k below. flags-behind kept from k ∙ there (from + k) (omega arith) (omega arith)) in
      (s.0, rows_behind-sums _ _ _ _ (drop from kept) bytes places ∙ s.1)
