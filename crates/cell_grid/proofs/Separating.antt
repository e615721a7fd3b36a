-- A paragraph that is its separator alone has one row.
use Rattle.std.proofs.Common.{◌≡◌, ℕ, zero, suc, ◌+◌, ◌-◌, ◌<◌, ◌≤◌, true, false, cond, List, [], ◌∷◌, ◌++◌, map, length, replicate, slice_range, Some, refl, sym, ap, subst, ◌∙◌, arith, append-nil}
use Rattle.std.proofs.lemmas.List.Elements.{All-head, All-tail}
use Rattle.std.specs.List.{All, concat, list_all, list_any}
use Rattle.std.specs.Prelude.{◌||◌, nat_le}
use Rattle.std.specs.Str.{IsUtf8}
use Rattle.bg_types.specs.declared.class.Base.{Base}
use Rattle.bg_types.specs.declared.class.Bidi.TheVariants.{B}
use Rattle.bg_types.specs.Classes.{is_removed}
use Rattle.unicode_tables.specs.Tables.{TableValues, bidi_of, lb_of}
use Rattle.paragraphs.specs.Text.{code_points}
use Rattle.paragraphs.specs.Classes.{is_separator, is_line_end}
use Rattle.paragraphs.specs.Clusters.{clusters, cluster_sizes}
use Rattle.paragraphs.specs.Columns.{is_invisible, takes_two, columns_by_choice}
use Rattle.paragraphs.specs.Spans.{spans_from}
use Rattle.paragraphs.specs.declared.span.Span.{Span}
use Rattle.bidi_explicit.specs.Embedding.{paragraph_level, classes_of, embedding_at}
use Rattle.bidi_explicit.specs.Levels.{explicit_places}
use Rattle.bidi_weak_neutral.proofs.Interface.{length-resolved_levels}
use Rattle.bidi_weak_neutral.specs.Levels.{resolved_levels, levels_of}
use Rattle.line_break.specs.declared.cluster.Cluster.{Cluster}
use Rattle.line_break.specs.declared.line.Line.{Line}
use Rattle.line_break.specs.LineClusters.{line_clusters, measured_all}
use Rattle.line_break.specs.Lines.{lines}
use Rattle.line_break.specs.Ranges.{Follow}
use Rattle.line_break.specs.Statuses.{breaks}
use Rattle.reorder.specs.LineLevels.{levels_after_l1, group_firsts}
use Rattle.reorder.specs.VisualList.{numbers, runs_reversed, runs_reversed_behind, is_at_least, reversed_from, greatest, lowest_odd, arranged, visual_list}
use Rattle.reorder.specs.LineLevels.{is_separator as is_reset}
use Rattle.cell_grid.specs.LawsBelow.{LawsBelow}
use Rattle.cell_grid.specs.Hanging.{hung, line_columns}
use Rattle.cell_grid.specs.Outline.{own_columns, IsLine}
use Rattle.cell_grid.specs.Rows.{row_with, levels_in_line, row_of, rows_of}
use Rattle.cell_grid.specs.Separators.{IsSeparatorAlone, separator_row}
use Rattle.cell_grid.specs.Spans.{spans}
use Rattle.cell_grid.proofs.LineBounds.{bounds-follow}
use Rattle.cell_grid.proofs.LinesOf.{IsLine-lines, hung-columns}
use Rattle.cell_grid.proofs.Standing.{points, points-concat, span_of}
use Rattle.cell_grid.proofs.Steps.{take-whole}

-- ---- its place among others

abbrev numbered : Type 0
numbered = ℕ × ℕ

reversed-one : (n level : ℕ) (x : numbered) → reversed_from n level (x ∷ []) ≡ x ∷ []
reversed-one zero level x = refl
reversed-one (suc n) level x =
    ap (runs_reversed (is_at_least level)) (reversed-one n (suc level) x)
    ∙ elim (is_at_least level x) as (λ b. elim b as (λ _. List numbered) [ true ↦ runs_reversed_behind (is_at_least level) (x ∷ []) [] | false ↦ [] ++ x ∷ runs_reversed_behind (is_at_least level) [] [] ] ≡ x ∷ []) [ true ↦ refl | false ↦ refl ]

pub visual-one : (level : ℕ) → visual_list (level ∷ []) ≡ 0 ∷ []
unfolding visual_list arranged
visual-one level =
    let above = suc (greatest (level ∷ [])) in
    let lowest = lowest_odd above (level ∷ []) in
    ap numbers (reversed-one (above - lowest) lowest (0, level))

-- ---- a level for its one place

one-kept : (p : ℕ) → explicit_places p (B ∷ []) ≡ Some (record { level = p; class = B }) ∷ []
unfolding is_removed is_separator
one-kept p = refl

one-level : (tables : TableValues) (c p : ℕ) → length (resolved_levels tables (c ∷ []) (embedding_at p (B ∷ []))) ≡ 1
one-level tables c p = length-resolved_levels tables (c ∷ []) (embedding_at p (B ∷ [])) (ap length (one-kept p))

-- ---- one line of one cluster

abbrev first_line : Line
first_line = record { start = 0; end = 1 }

line_between : ℕ → ℕ → Line
line_between a b = record { start = a; end = b }

one-line : (ls : List Line) → Follow 0 ls 1 → ls ≡ first_line ∷ []
unfolding line_between
one-line [] f = absurd (omega arith)
one-line (l ∷ []) f = ap (λ n. line_between n l.end ∷ []) f.0 ∙ ap (λ n. line_between 0 n ∷ []) f.2
one-line (l ∷ m ∷ ls) f =
    let later = (bounds-follow (m ∷ ls) l.end 1 f.2).0 in
    let more = (bounds-follow ls m.end 1 f.2.2).0 in
    let some = f.1 in
    let next = f.2.1 in
    absurd (omega arith)

one-cluster : (text : List ℕ) (cs : List (List ℕ)) → concat cs ≡ text → All (λ size. 0 < size) (map length (map code_points cs)) → points cs ≡ 1 → cs ≡ text ∷ []
one-cluster text [] joined some n = absurd (omega arith)
one-cluster text (x ∷ []) joined some n = ap (λ t. t ∷ []) (sym (append-nil x) ∙ joined)
one-cluster text (x ∷ y ∷ cs) joined some n =
    let tail = All-tail (λ size. 0 < size) (length (code_points x)) (map length (map code_points (y ∷ cs))) some in
    let first = All-head (λ size. 0 < size) (length (code_points x)) (map length (map code_points (y ∷ cs))) some in
    let second = All-head (λ size. 0 < size) (length (code_points y)) (map length (map code_points cs)) tail in
    absurd (omega arith)

-- ---- what its row is made of

reset-level : (p : ℕ) (levels : List ℕ) → length levels ≡ 1 → group_firsts (1 ∷ []) (levels_after_l1 p (B ∷ []) (slice_range levels 0 1)) ≡ p ∷ []
unfolding is_reset
reset-level p [] n = absurd (omega arith)
reset-level p (l ∷ levels) n = refl

no-column : (width : ℕ) → hung width (0 ∷ []) ≡ 0 ∷ []
no-column width = elim (nat_le 0 width) as (λ b. cond b (0 ∷ hung (width - 0) []) (replicate 1 0) ≡ 0 ∷ []) [ true ↦ refl | false ↦ refl ]

own-column : (tables : TableValues) (text : List ℕ) (c : ℕ) → clusters text ≡ text ∷ [] → code_points text ≡ c ∷ [] → bidi_of tables c ≡ B → own_columns tables text ≡ 0 ∷ []
unfolding line_clusters is_separator
own-column tables text c cs alone class =
    let columns : List (List ℕ) → List ℕ = λ ps. map (λ (k : Cluster). k.columns) (measured_all tables ps (breaks tables text)) in
    let otherwise = cond (list_all (is_invisible tables) (c ∷ [])) 0 (cond (list_any (takes_two tables) (c ∷ [])) 2 (columns_by_choice tables (c ∷ []))) in
    ap (λ l. columns (map code_points l)) cs ∙ ap (λ p. columns (p ∷ [])) alone
    ∙ ap (λ k. cond (is_separator k || is_line_end (lb_of tables c)) 0 otherwise ∷ []) class

module _ (below : LawsBelow) (tables : TableValues) (width : ℕ) (wide : 2 ≤ width) (text : List ℕ) (u : IsUtf8 text) (is : IsSeparatorAlone tables text) where
  its-cluster : clusters text ≡ text ∷ []
  its-cluster =
      let n = points-concat (clusters text) (below.clusters_utf8 text u) in
      let same = ap (λ t. length (code_points t)) (below.clusters_join text u) in
      let one = ap length is.alone in
      one-cluster text (clusters text) (below.clusters_join text u) (below.sizes_some text u) (omega arith)

  its-line : lines tables text width ≡ first_line ∷ []
  its-line =
      let one = ap length its-cluster in
      one-line (lines tables text width) (subst (Follow 0 (lines tables text width)) one (below.lines_follow tables text width (omega arith)))

  its-span : slice_range (spans text) 0 1 ≡ span_of 0 (length text) 0 1 ∷ []
  its-span =
      let b : 0 + length text ≡ length text = omega arith in
      let one = ap length is.alone in
      let p : 0 + length (code_points text) ≡ 1 = omega arith in
      ap (λ cs. slice_range (spans_from 0 0 cs) 0 1) its-cluster
      ∙ ap (λ n. span_of 0 n 0 (0 + length (code_points text)) ∷ []) b ∙ ap (λ n. span_of 0 (length text) 0 n ∷ []) p

  its-size : slice_range (cluster_sizes text) 0 1 ≡ 1 ∷ []
  its-size = ap (λ cs. slice_range (map length (map code_points cs)) 0 1) its-cluster ∙ ap (λ ps. length ps ∷ []) is.alone

  its-level : (p : ℕ) (levels : List ℕ) → length levels ≡ 1
      → levels_in_line tables text levels p (slice_range (spans text) 0 1) (slice_range (cluster_sizes text) 0 1) ≡ p ∷ []
  its-level p levels n =
      let whole : slice_range text 0 (length text) ≡ text = take-whole text (length text - 0) (omega arith) in
      ap (λ (s : List Span). levels_in_line tables text levels p s (slice_range (cluster_sizes text) 0 1)) its-span
      ∙ ap (levels_in_line tables text levels p (span_of 0 (length text) 0 1 ∷ [])) its-size
      ∙ ap (λ t. group_firsts (1 ∷ []) (levels_after_l1 p (map (bidi_of tables) (code_points t)) (slice_range levels 0 1))) whole
      ∙ ap (λ ps. group_firsts (1 ∷ []) (levels_after_l1 p (map (bidi_of tables) ps) (slice_range levels 0 1))) is.alone
      ∙ ap (λ k. group_firsts (1 ∷ []) (levels_after_l1 p (k ∷ []) (slice_range levels 0 1))) is.class
      ∙ reset-level p levels n

  its-columns : line_columns tables width text first_line ≡ 0 ∷ []
  its-columns =
      let line = subst (All (IsLine tables width text)) its-line (IsLine-lines below tables text u width wide) 0 first_line (omega arith) in
      sym (hung-columns tables width text first_line line)
      ∙ ap (λ l. hung width (slice_range l 0 1)) (own-column tables text is.point its-cluster is.alone is.class)
      ∙ no-column width

  length-levels : (base : Base) → length (levels_of tables base text) ≡ 1
  length-levels base =
      let at = paragraph_level base (classes_of tables text) in
      ap (λ ps. length (resolved_levels tables ps (embedding_at at (map (bidi_of tables) ps)))) is.alone
      ∙ ap (λ k. length (resolved_levels tables (is.point ∷ []) (embedding_at at (k ∷ [])))) is.class
      ∙ one-level tables is.point at

  pub separator-rows : (base : Base) → separator_row width (paragraph_level base (classes_of tables text)) (length text) ∷ [] ≡ rows_of tables width base text
  separator-rows base =
      let p = paragraph_level base (classes_of tables text) in
      let levels = levels_of tables base text in
      sym (
      ap (map (row_of tables width p text levels)) its-line
      ∙ ap (λ (s : List Span). row_with width p s (levels_in_line tables text levels p (slice_range (spans text) 0 1) (slice_range (cluster_sizes text) 0 1)) (line_columns tables width text first_line) ∷ []) its-span
      ∙ ap (λ l. row_with width p (span_of 0 (length text) 0 1 ∷ []) l (line_columns tables width text first_line) ∷ []) (its-level p levels (length-levels base))
      ∙ ap (λ n. row_with width p (span_of 0 (length text) 0 1 ∷ []) (p ∷ []) n ∷ []) its-columns
      )
