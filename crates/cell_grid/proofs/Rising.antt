-- No two rows of a grid begin at one place.
use Rattle.std.proofs.Common.{◌≡◌, ℕ, zero, suc, ◌+◌, ◌<◌, ◌≤◌, Bool, true, false, cond, List, [], ◌∷◌, ◌++◌, filter, map, length, get_or, sum, flat_map, slice_range, refl, sym, ap, subst, arith, inl, inr}
use Rattle.std.proofs.lemmas.List.Concat.{flat_map-cons}
use Rattle.std.proofs.lemmas.List.Elements.{All-nil, All-cons, All-head, All-tail, All-map}
use Rattle.std.proofs.lemmas.List.Sums.{sum_by-cons}
use Rattle.std.proofs.lemmas.Bool.{cases_lt}
use Rattle.std.specs.List.{All, range_with_len}
use Rattle.std.specs.Str.{IsUtf8}
use Rattle.bg_types.specs.declared.class.Base.{Base}
use Rattle.unicode_tables.specs.Tables.{TableValues, bidi_of}
use Rattle.paragraphs.specs.Text.{code_points}
use Rattle.paragraphs.specs.Clusters.{clusters, cluster_sizes}
use Rattle.paragraphs.specs.Paragraphs.{Paragraph, is_cut, pieces, paragraphs, ParagraphsFollow}
use Rattle.bidi_explicit.specs.Embedding.{paragraph_level, classes_of}
use Rattle.bidi_weak_neutral.specs.Levels.{levels_of}
use Rattle.line_break.specs.declared.line.Line.{Line}
use Rattle.line_break.specs.Lines.{lines}
use Rattle.line_break.specs.Ranges.{Follow}
use Rattle.cell_grid.specs.LawsBelow.{LawsBelow}
use Rattle.cell_grid.specs.Rows.{DrawnRow, row_of, rows_of, shifted}
use Rattle.cell_grid.specs.Outline.{IsLine}
use Rattle.cell_grid.specs.Grids.{DrawnGrid, paragraph_rows, IsDrawn}
use Rattle.cell_grid.specs.Laws.{RowsFollow}
use Rattle.cell_grid.specs.Windows.{FirstPlacesRise}
use Rattle.cell_grid.proofs.Standing.{points}
use Rattle.cell_grid.proofs.Parts.{length-slice}
use Rattle.cell_grid.proofs.Counting.{length-sizes_of}
use Rattle.cell_grid.proofs.LinesOf.{IsLine-lines}
use Rattle.cell_grid.proofs.Following.{points-clusters, points-none, paragraphs-utf8, rows-follow}

-- ---- each paragraph begins after the one before it

-- the first of these begins after a place, each other one after the one before it
abbrev Rises : ℕ → List Paragraph → Type 0
Rises place [] = Unit {0}
Rises place (p ∷ later) = (place < p.first_place) × Rises p.first_place later

-- the first begins at a place
abbrev RisesFrom : ℕ → List Paragraph → Type 0
RisesFrom place [] = Unit {0}
RisesFrom place (p ∷ later) = (p.first_place ≡ place) × Rises p.first_place later

rises-later : (from place : ℕ) (ps : List Paragraph) → from < place → RisesFrom place ps → Rises from ps
rises-later from place [] lt h = tt
rises-later from place (p ∷ ps) lt h = let e = h.0 in (omega arith, h.1)

cuts-rise : (points : List ℕ) (passes : ℕ → Bool) (n a from : ℕ) → from < a → RisesFrom from (pieces points from (filter passes (range_with_len a n)))
cuts-rise points passes zero a from lt = (refl, tt)
cuts-rise points passes (suc n) a from lt =
    let rest = filter passes (range_with_len (a + 1) n) in
    elim (passes a) as (λ b. RisesFrom from (pieces points from (cond b (a ∷ rest) rest))) [
      | true ↦ (refl, rises-later from a (pieces points a rest) lt (cuts-rise points passes n (a + 1) a (omega arith)))
      | false ↦ cuts-rise points passes n (a + 1) from (omega arith)
    ]

paragraphs-rise : (tables : TableValues) (text : List ℕ) → RisesFrom 0 (paragraphs tables text)
paragraphs-rise tables text = cuts-rise (code_points text) (is_cut (bidi_of tables) (code_points text)) (length (code_points text)) 1 0 (omega arith)

-- ---- rows with places

abbrev HasPlace : DrawnRow → Type 0
HasPlace r = r.first_place < r.last_place

-- all of them but the last have places
abbrev HavePlaces : List DrawnRow → Type 0
HavePlaces [] = Unit {0}
HavePlaces (r ∷ []) = Unit {0}
HavePlaces (r ∷ s ∷ later) = HasPlace r × HavePlaces (s ∷ later)

places-cons : (r : DrawnRow) (rows : List DrawnRow) → HasPlace r → HavePlaces rows → HavePlaces (r ∷ rows)
places-cons r [] here later = tt
places-cons r (s ∷ rows) here later = (here, later)

places-append : (xs ys : List DrawnRow) → All HasPlace xs → HavePlaces ys → HavePlaces (xs ++ ys)
places-append [] ys all later = later
places-append (r ∷ xs) ys all later = places-cons r (xs ++ ys) (All-head HasPlace r xs all) (places-append xs ys (All-tail HasPlace r xs all) later)

-- rows that follow one another then rise
places-rise : (from to : ℕ) (rows : List DrawnRow) → RowsFollow from rows to → HavePlaces rows → FirstPlacesRise rows
places-rise from to [] follow has = tt
places-rise from to (r ∷ []) follow has = tt
places-rise from to (r ∷ s ∷ later) follow has =
    let next = follow.2.0 in
    let here = has.0 in
    (omega arith, places-rise r.last_place to (s ∷ later) follow.2 has.1)

sum-some : (xs : List ℕ) → All (λ n. 0 < n) xs → 0 < length xs → 0 < sum xs
sum-some [] all some = absurd (omega arith)
sum-some (x ∷ xs) all some =
    let first = All-head (λ n. 0 < n) x xs all in
    let whole = sum_by-cons (λ (n : ℕ). n) x xs in
    omega arith

-- the row of a line that has a cluster has a place
module _ (tables : TableValues) (width para : ℕ) (text levels : List ℕ) where
  line-place : (line : Line) → IsLine tables width text line → line.start < line.end → HasPlace (row_of tables width para text levels line)
  line-place line h some =
      let within = h.within in
      let order = h.order in
      let n = length-sizes_of text in
      let long = length-slice (cluster_sizes text) line.start line.end order (omega arith) in
      let more = sum-some (slice_range (cluster_sizes text) line.start line.end) h.stand.some (omega arith) in
      let whole = h.stand.whole in
      omega arith

  lines-places : (ls : List Line) (from to : ℕ) → All (IsLine tables width text) ls → Follow from ls to → All HasPlace (map (row_of tables width para text levels) ls)
  lines-places [] from to all follow = All-nil HasPlace
  lines-places (line ∷ ls) from to all follow =
      let start = follow.0 in
      let end = follow.1 in
      All-cons HasPlace (row_of tables width para text levels line) (map (row_of tables width para text levels) ls)
      (line-place line (All-head (IsLine tables width text) line ls all) (omega arith))
      (lines-places ls line.end to (All-tail (IsLine tables width text) line ls all) follow.2)

module _ (below : LawsBelow) (tables : TableValues) (width : ℕ) (wide : 2 ≤ width) (base : Base) where
  -- the rows of a paragraph that isn't empty have places
  rows-places : (text : List ℕ) → IsUtf8 text → 0 < length (code_points text) → All HasPlace (rows_of tables width base text)
  rows-places text u some =
      let whole = points-clusters below text u in
      elim (cases_lt 0 (length (clusters text))) [
        | inl has ↦
            lines-places tables width (paragraph_level base (classes_of tables text)) text (levels_of tables base text) (lines tables text width) 0 (length (clusters text))
            (IsLine-lines below tables text u width wide) (below.lines_follow tables text width has)
        | inr none ↦
            let nothing = points-none (clusters text) (omega arith) in
            absurd (omega arith)
      ]

  -- an empty paragraph has one row
  rows-one : (text : List ℕ) → IsUtf8 text → length (code_points text) ≤ 0 → (r : DrawnRow) × (rows_of tables width base text ≡ r ∷ [])
  rows-one text u none = (
    row_of tables width (paragraph_level base (classes_of tables text)) text (levels_of tables base text) (record { start = 0; end = 0 }),
    ap (map (row_of tables width (paragraph_level base (classes_of tables text)) text (levels_of tables base text))) (below.empty_line tables text width (no-clusters (clusters text) (below.sizes_some text u) (points-clusters below text u))),
  )
    where
      no-clusters : (cs : List (List ℕ)) → All (λ (size : ℕ). 0 < size) (map length (map code_points cs)) → points cs ≡ length (code_points text) → length cs ≡ 0
      no-clusters [] sizes whole = refl
      no-clusters (c ∷ cs) sizes whole = let first = All-head (λ (size : ℕ). 0 < size) (length (code_points c)) (map length (map code_points cs)) sizes in absurd (omega arith)

  module _ (p : Paragraph) where
    shifted-places : All HasPlace (rows_of tables width base p.text) → All HasPlace (paragraph_rows tables width base p)
    shifted-places all =
        All-map HasPlace (shifted p.first_byte p.first_place) (rows_of tables width base p.text)
        (λ k d lt. let here : HasPlace (get_or (rows_of tables width base p.text) k d) = all k d lt in omega arith)

    one-places : (r : DrawnRow) → rows_of tables width base p.text ≡ r ∷ [] → HavePlaces (paragraph_rows tables width base p ++ [])
    one-places r one = subst (λ rows. HavePlaces (map (shifted p.first_byte p.first_place) rows ++ [])) (sym one) tt

  paras-places : (byte place : ℕ) (ps : List Paragraph) → All (λ (p : Paragraph). IsUtf8 p.text) ps → ParagraphsFollow byte place ps → RisesFrom place ps → HavePlaces (flat_map (paragraph_rows tables width base) ps)
  paras-places byte place [] utf8 follow rises = tt
  paras-places byte place (p ∷ []) utf8 follow rises =
      let u = All-head (λ (q : Paragraph). IsUtf8 q.text) p [] utf8 in
      subst HavePlaces (sym (flat_map-cons (paragraph_rows tables width base) p []))
      (elim (cases_lt 0 (length (code_points p.text))) [
        | inl some ↦ places-append (paragraph_rows tables width base p) [] (shifted-places p (rows-places p.text u some)) tt
        | inr none ↦ let one = rows-one p.text u none in one-places p one.0 one.1
      ])
  paras-places byte place (p ∷ q ∷ ps) utf8 follow rises =
      let u = All-head (λ (r : Paragraph). IsUtf8 r.text) p (q ∷ ps) utf8 in
      let first = follow.1 in
      let next = follow.2.1 in
      let above = rises.1.0 in
      let some : 0 < length (code_points p.text) = omega arith in
      subst HavePlaces (sym (flat_map-cons (paragraph_rows tables width base) p (q ∷ ps)))
      (places-append (paragraph_rows tables width base p) (flat_map (paragraph_rows tables width base) (q ∷ ps)) (shifted-places p (rows-places p.text u some))
      (paras-places (byte + length p.text) (place + length (code_points p.text)) (q ∷ ps) (All-tail (λ (r : Paragraph). IsUtf8 r.text) p (q ∷ ps) utf8) follow.2 (next, rises.1.1)))

pub first_places-rise : (below : LawsBelow) (g : DrawnGrid) → IsDrawn g → FirstPlacesRise g.rows
first_places-rise below g d =
    let ps = paragraphs g.tables g.text in
    let stand = below.paragraphs_stand g.tables g.text d.utf8 in
    places-rise 0 (length (code_points g.text)) g.rows (rows-follow below g d)
    (subst HavePlaces (sym d.rows)
    (paras-places below g.tables d.width d.at_least d.base 0 0 ps
    (paragraphs-utf8 g.text d.utf8 ps stand)
    (below.paragraphs_follow g.tables g.text d.utf8) (paragraphs-rise g.tables g.text)))
