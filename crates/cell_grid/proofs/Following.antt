-- Rows take up the places of their text in order.
use Rattle.std.proofs.Common.{◌≡◌, ℕ, ◌+◌, ◌<◌, ◌≤◌, List, [], ◌∷◌, ◌++◌, map, length, take, flat_map, refl, sym, ap, subst, ◌∙◌, arith, inl, inr, length-append}
use Rattle.std.proofs.lemmas.List.{take_all, length-map}
use Rattle.std.proofs.lemmas.List.Concat.{flat_map-cons}
use Rattle.std.proofs.lemmas.List.Sums.{sum_by-cons}
use Rattle.std.proofs.lemmas.List.Elements.{All-head, All-tail, All-map, All-weaker}
use Rattle.std.proofs.lemmas.Bool.Decides.{leb_tells}
use Rattle.std.specs.List.{All}
use Rattle.std.specs.Prelude.{sum_by}
use Rattle.std.specs.Str.{IsUtf8}
use Rattle.bg_types.specs.declared.class.Base.{Base}
use Rattle.unicode_tables.specs.Tables.{TableValues}
use Rattle.paragraphs.specs.Text.{code_points}
use Rattle.paragraphs.specs.Clusters.{clusters}
use Rattle.paragraphs.specs.Paragraphs.{Paragraph, paragraphs, StandsIn, ParagraphsFollow}
use Rattle.bidi_explicit.specs.Embedding.{paragraph_level, classes_of}
use Rattle.bidi_weak_neutral.specs.Levels.{levels_of}
use Rattle.line_break.specs.declared.line.Line.{Line}
use Rattle.line_break.specs.Lines.{lines}
use Rattle.line_break.specs.Ranges.{Follow}
use Rattle.cell_grid.specs.LawsBelow.{LawsBelow}
use Rattle.cell_grid.specs.Rows.{DrawnRow, row_of, rows_of, shifted}
use Rattle.cell_grid.specs.Outline.{IsLine}
use Rattle.cell_grid.specs.Grids.{DrawnGrid, paragraph_rows, grid_rows, IsDrawn}
use Rattle.cell_grid.specs.Laws.{RowsFollow}
use Rattle.cell_grid.proofs.Standing.{points, points-concat}
use Rattle.cell_grid.proofs.Parts.{part-first, part-last}
use Rattle.cell_grid.proofs.LinesOf.{IsLine-lines}
use Rattle.cell_grid.proofs.Slicing.{paragraph-utf8}

same_from : (rows : List DrawnRow) (a b to : ℕ) → a ≡ b → RowsFollow a rows to → RowsFollow b rows to
same_from rows a b to e h = subst (λ n. RowsFollow n rows to) e h

same_to : (rows : List DrawnRow) (from a b : ℕ) → a ≡ b → RowsFollow from rows a → RowsFollow from rows b
same_to rows from a b e h = subst (RowsFollow from rows) e h

RowsFollow-append : (xs ys : List DrawnRow) (a b c : ℕ) → RowsFollow a xs b → RowsFollow b ys c → RowsFollow a (xs ++ ys) c
RowsFollow-append [] ys a b c h k = same_from ys b a c (sym h) k
RowsFollow-append (r ∷ xs) ys a b c h k = (h.0, h.1, RowsFollow-append xs ys r.last_place b c h.2 k)

RowsFollow-shifted : (i q : ℕ) (rows : List DrawnRow) (a b : ℕ) → RowsFollow a rows b → RowsFollow (a + q) (map (shifted i q) rows) (b + q)
RowsFollow-shifted i q [] a b h = ap (λ n. n + q) h
RowsFollow-shifted i q (r ∷ rows) a b h = let le = h.1 in (ap (λ n. n + q) h.0, omega arith, RowsFollow-shifted i q rows r.last_place b h.2)

-- ---- the rows of a paragraph

module _ (below : LawsBelow) (tables : TableValues) (width para : ℕ) (text levels : List ℕ) (u : IsUtf8 text) where
  lines-follow : (ls : List Line) (from to : ℕ) → All (IsLine tables width text) ls → Follow from ls to
      → RowsFollow (points (take from (clusters text))) (map (row_of tables width para text levels) ls) (points (take to (clusters text)))
  lines-follow [] from to h f = ap (λ n. points (take n (clusters text))) f
  lines-follow (line ∷ ls) from to h f =
      let l = All-head (IsLine tables width text) line ls h in
      let start = f.0 in
      let some = f.1 in
      let lt : line.start < line.end = omega arith in
      let first = part-first below text u line.start line.end l.order l.within (inl lt) in
      let last = part-last below text u line.start line.end l.order l.within (inl lt) in
      let places = l.stand.places in (
        first ∙ ap (λ n. points (take n (clusters text))) start,
        places,
        same_from (map (row_of tables width para text levels) ls) (points (take line.end (clusters text))) ((row_of tables width para text levels line).last_place) (points (take to (clusters text))) (sym last)
            (lines-follow ls line.end to (All-tail (IsLine tables width text) line ls h) f.2),
      )

  -- an empty line
  line-empty : (line : Line) → length (clusters text) ≡ 0 → line.start ≡ 0 → line.end ≡ 0 → IsLine tables width text line → RowsFollow 0 (map (row_of tables width para text levels) (line ∷ [])) 0
  line-empty line none start end l =
      let first = part-first below text u line.start line.end l.order l.within (inr (none, start, end)) in
      let last = part-last below text u line.start line.end l.order l.within (inr (none, start, end)) in
      let nothing : (k : ℕ) → k ≡ 0 → points (take k (clusters text)) ≡ 0 = λ k e. ap (λ n. points (take n (clusters text))) e in
      (first ∙ nothing line.start start, l.stand.places, last ∙ nothing line.end end)

pub points-clusters : (below : LawsBelow) (text : List ℕ) → IsUtf8 text → points (clusters text) ≡ length (code_points text)
points-clusters below text u = sym (points-concat (clusters text) (below.clusters_utf8 text u)) ∙ ap (λ t. length (code_points t)) (below.clusters_join text u)

pub points-none : (cs : List (List ℕ)) → length cs ≡ 0 → points cs ≡ 0
points-none [] e = refl
points-none (c ∷ cs) e = absurd (omega arith)

pub paragraph-follows : (below : LawsBelow) (tables : TableValues) (width : ℕ) (wide : 2 ≤ width) (base : Base) (text : List ℕ) (u : IsUtf8 text)
    → RowsFollow 0 (rows_of tables width base text) (length (code_points text))
paragraph-follows below tables width wide base text u =
    let para = paragraph_level base (classes_of tables text) in
    let levels = levels_of tables base text in
    let rows = rows_of tables width base text in
    let row = row_of tables width para text levels in
    let all = IsLine-lines below tables text u width wide in
    let cs = clusters text in
    let whole = points-clusters below text u in
    elim (leb_tells 1 (length cs)) [
      | inl some ↦
          same_to rows 0 (points (take (length cs) cs)) (length (code_points text)) (ap points (take_all (length cs) cs (omega arith)) ∙ whole)
          (lines-follow below tables width para text levels u (lines tables text width) 0 (length cs) all (below.lines_follow tables text width some.1))
      | inr none ↦
          let few = none.1 in
          let zero_long : length cs ≡ 0 = omega arith in
          let empty = below.empty_line tables text width zero_long in
          let line : Line = record { start = 0; end = 0 } in
          let one = All-head (IsLine tables width text) line [] (subst (All (IsLine tables width text)) empty all) in
          same_to rows 0 0 (length (code_points text)) (sym (points-none cs zero_long) ∙ whole)
          (subst (λ ls. RowsFollow 0 (map row ls) 0) (sym empty) (line-empty below tables width para text levels u line zero_long refl refl one))
    ]

-- ---- the rows of a text

-- the place after some paragraphs
abbrev pub place_behind : ℕ → List Paragraph → ℕ
place_behind place [] = place
place_behind place (p ∷ ps) = place_behind (place + length (code_points p.text)) ps

module _ (below : LawsBelow) (tables : TableValues) (width : ℕ) (wide : 2 ≤ width) (base : Base) where
  paras-follow : (byte place : ℕ) (ps : List Paragraph) → All (λ (p : Paragraph). IsUtf8 p.text) ps → ParagraphsFollow byte place ps
      → RowsFollow place (flat_map (paragraph_rows tables width base) ps) (place_behind place ps)
  paras-follow byte place [] utf8 h = refl
  paras-follow byte place (p ∷ ps) utf8 h =
      let rows = paragraph_rows tables width base in
      let u = All-head (λ (q : Paragraph). IsUtf8 q.text) p ps utf8 in
      let own = RowsFollow-shifted p.first_byte p.first_place (rows_of tables width base p.text) 0 (length (code_points p.text)) (paragraph-follows below tables width wide base p.text u) in
      let place_is = h.1 in
      let from : 0 + p.first_place ≡ place = omega arith in
      let to : length (code_points p.text) + p.first_place ≡ place + length (code_points p.text) = omega arith in
      subst (λ l. RowsFollow place l (place_behind place (p ∷ ps))) (sym (flat_map-cons rows p ps))
      (RowsFollow-append (rows p) (flat_map rows ps) place (place + length (code_points p.text)) (place_behind place (p ∷ ps))
      (same_from (rows p) (0 + p.first_place) place (place + length (code_points p.text)) from (same_to (rows p) (0 + p.first_place) (length (code_points p.text) + p.first_place) (place + length (code_points p.text)) to own))
      (paras-follow (byte + length p.text) (place + length (code_points p.text)) ps (All-tail (λ (q : Paragraph). IsUtf8 q.text) p ps utf8) h.2))

  behind-sum : (place : ℕ) (ps : List Paragraph) → place_behind place ps ≡ place + sum_by (λ (p : Paragraph). length (code_points p.text)) ps
  behind-sum place [] = omega arith
  behind-sum place (p ∷ ps) =
      let e = behind-sum (place + length (code_points p.text)) ps in
      let whole = sum_by-cons (λ (q : Paragraph). length (code_points q.text)) p ps in
      omega arith

  -- the rows of paragraphs take up their places in order
  pub paragraphs-follow : (byte place : ℕ) (ps : List Paragraph) → All (λ (p : Paragraph). IsUtf8 p.text) ps → ParagraphsFollow byte place ps
      → RowsFollow place (flat_map (paragraph_rows tables width base) ps) (place + sum_by (λ (p : Paragraph). length (code_points p.text)) ps)
  paragraphs-follow byte place ps utf8 h =
      same_to (flat_map (paragraph_rows tables width base) ps) place (place_behind place ps) (place + sum_by (λ (p : Paragraph). length (code_points p.text)) ps) (behind-sum place ps)
      (paras-follow byte place ps utf8 h)

-- the paragraphs of a text are texts
pub paragraphs-utf8 : (text : List ℕ) → IsUtf8 text → (ps : List Paragraph) → All (StandsIn text) ps → All (λ (p : Paragraph). IsUtf8 p.text) ps
paragraphs-utf8 text u ps stand = All-weaker (StandsIn text) (λ (p : Paragraph). IsUtf8 p.text) (paragraph-utf8 text u) ps stand

texts : List Paragraph → List (List ℕ)
texts ps = map (λ (p : Paragraph). p.text) ps

texts-utf8 : (text : List ℕ) → IsUtf8 text → (ps : List Paragraph) → All (StandsIn text) ps → All IsUtf8 (texts ps)
unfolding texts
texts-utf8 text u ps stand = All-map IsUtf8 (λ (p : Paragraph). p.text) ps (paragraphs-utf8 text u ps stand)

behind-points : (place : ℕ) (ps : List Paragraph) → place_behind place ps ≡ place + points (texts ps)
unfolding texts
behind-points place [] = omega arith
behind-points place (p ∷ ps) = let e = behind-points (place + length (code_points p.text)) ps in omega arith

-- the rows of a grid take up the places of its text in order
pub rows-follow : (below : LawsBelow) (g : DrawnGrid) → IsDrawn g → RowsFollow 0 g.rows (length (code_points g.text))
unfolding texts
rows-follow below g d =
    let ps = paragraphs g.tables g.text in
    let stand = below.paragraphs_stand g.tables g.text d.utf8 in
    let whole = ap (λ t. length (code_points t)) (sym (below.paragraphs_join g.tables g.text d.utf8)) ∙ points-concat (texts ps) (texts-utf8 g.text d.utf8 ps stand) in
    let behind = behind-points 0 ps in
    let end : place_behind 0 ps ≡ length (code_points g.text) = omega arith in
    subst (λ rows. RowsFollow 0 rows (length (code_points g.text))) (sym d.rows)
    (same_to (grid_rows g.tables d.width d.base g.text) 0 (place_behind 0 ps) (length (code_points g.text)) end
    (paras-follow below g.tables d.width d.at_least d.base 0 0 ps (paragraphs-utf8 g.text d.utf8 ps stand) (below.paragraphs_follow g.tables g.text d.utf8)))

-- ---- a grid has a row

-- lines that join to some clusters, or the one line of none
some-lines : (below : LawsBelow) (tables : TableValues) (text : List ℕ) (width : ℕ) → 0 < length (lines tables text width)
some-lines below tables text width = elim (leb_tells 1 (length (clusters text))) [
  | inl some ↦ has_line (lines tables text width) (length (clusters text)) (below.lines_follow tables text width some.1) some.1
  | inr none ↦
      let few = none.1 in
      let zero_long : length (clusters text) ≡ 0 = omega arith in
      let one = ap length (below.empty_line tables text width zero_long) in
      omega arith
]
  where
    has_line : (ls : List Line) (to : ℕ) → Follow 0 ls to → 1 ≤ to → 0 < length ls
    has_line [] to f some = absurd (omega arith)
    has_line (line ∷ ls) to f some = omega arith

pub some-rows : (below : LawsBelow) (tables : TableValues) (width : ℕ) (base : Base) (ps : List Paragraph) → 0 < length ps → 0 < length (flat_map (paragraph_rows tables width base) ps)
some-rows below tables width base [] some = absurd (omega arith)
some-rows below tables width base (p ∷ ps) some =
    let rows = paragraph_rows tables width base in
    let e = ap length (flat_map-cons rows p ps) ∙ length-append (rows p) (flat_map rows ps) in
    let a = length-map (rows_of tables width base p.text) (shifted p.first_byte p.first_place) in
    let b = length-map (lines tables p.text width) (row_of tables width (paragraph_level base (classes_of tables p.text)) p.text (levels_of tables base p.text)) in
    let has = some-lines below tables p.text width in
    omega arith

pub rows-some : (below : LawsBelow) (g : DrawnGrid) → IsDrawn g → 0 < length g.rows
rows-some below g d =
    let some = some-rows below g.tables d.width d.base (paragraphs g.tables g.text) (below.paragraphs_some g.tables g.text) in
    let same = ap length d.rows in
    omega arith
