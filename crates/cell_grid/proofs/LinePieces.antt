-- The lines of a paragraph, one after the other: what they have of the runs, and the rows of their pieces.
use Rattle.std.proofs.Common.{◌≡◌, ℕ, suc, ◌+◌, ◌-◌, ◌*◌, ◌<◌, ◌≤◌, List, [], ◌∷◌, map, length, take, drop, slice_range, sum, refl, sym, ap, subst, ◌∙◌, arith, inl, inr}
use Rattle.std.proofs.lemmas.Bool.Decides.{leb_tells}
use Rattle.std.proofs.lemmas.List.{drop-drop, length-drop, length-map}
use Rattle.std.proofs.lemmas.List.Concat.{flat_map-cons}
use Rattle.std.proofs.lemmas.List.Elements.{All-nil, All-cons, All-head, All-tail}
use Rattle.std.specs.List.{All}
use Rattle.std.specs.Str.{IsUtf8}
use Rattle.bg_types.specs.declared.class.Bidi.{Bidi}
use Rattle.unicode_tables.specs.Tables.{TableValues, bidi_of}
use Rattle.paragraphs.specs.Text.{code_points}
use Rattle.paragraphs.specs.Clusters.{clusters, cluster_sizes}
use Rattle.paragraphs.specs.declared.span.Span.{Span}
use Rattle.paragraphs.proofs.Interface.{points-fit}
use Rattle.bidi_explicit.specs.Embedding.{classes_of}
use Rattle.line_break.specs.declared.line.Line.{Line}
use Rattle.line_break.specs.declared.run.ShapeRun.{ShapeRun}
use Rattle.line_break.specs.Lines.{lines}
use Rattle.line_break.specs.Ranges.{Follow}
use Rattle.line_break.specs.Runs.{span_in, spans_of, AllHaveSome}
use Rattle.reorder.specs.LineLevels.{levels_after_l1, group_firsts}
use Rattle.cell_grid.specs.declared.cluster_run.ClusterRun.{ClusterRun}
use Rattle.cell_grid.specs.Hanging.{hung}
use Rattle.cell_grid.specs.LawsBelow.{LawsBelow}
use Rattle.cell_grid.specs.Outline.{own_columns, IsLine}
use Rattle.cell_grid.specs.Parts.{front, behind, all_spans, all_sizes, all_columns, IsWithin, ArePassed, AreFrom}
use Rattle.cell_grid.specs.Pieces.{levels_of, columns_of}
use Rattle.cell_grid.specs.Pieces.{spans_of as piece_spans}
use Rattle.cell_grid.specs.Rows.{row_with, row_of, levels_in_line}
use Rattle.cell_grid.specs.Spans.{spans, extent}
use Rattle.cell_grid.proofs.Counting.{length-spans_of}
use Rattle.cell_grid.proofs.Cutting.{passed-none, last-span}
use Rattle.cell_grid.proofs.LinesOf.{hung-columns}
use Rattle.cell_grid.proofs.Numbered.{All-front, All-back}
use Rattle.cell_grid.proofs.Parts.{slice-map, length-slice}
use Rattle.cell_grid.proofs.Slicing.{IsSpan, spans-slices}

-- ---- lines that follow one another

-- the first line begins here, and each other one where the one before it ends
abbrev pub Chain : (from : ℕ) → List Line → Type 0
Chain from [] = Unit {0}
Chain from (line ∷ later) = (line.start ≡ from) × Chain line.end later

chain-follow : (ls : List Line) (from to : ℕ) → Follow from ls to → Chain from ls
chain-follow [] from to f = tt
chain-follow (line ∷ later) from to f = (f.0, chain-follow later line.end to f.2)

pub chain-lines : (below : LawsBelow) (tables : TableValues) (text : List ℕ) (width : ℕ) → Chain 0 (lines tables text width)
chain-lines below tables text width = elim (leb_tells 1 (length (clusters text))) [
  | inl some ↦ chain-follow (lines tables text width) 0 (length (clusters text)) (below.lines_follow tables text width some.1)
  | inr none ↦
      let few = none.1 in
      let zero_long : length (clusters text) ≡ 0 = omega arith in
      subst (Chain 0) (sym (below.empty_line tables text width zero_long)) (refl, tt)
]

-- the runs that are left have the clusters from where these lines begin on
pub record AreAhead (tables : TableValues) (text : List ℕ) (ls : List Line) (runs : List ShapeRun) : Type 0 where
  pub from : ℕ
  pub chain : Chain from ls
  pub are : AreFrom tables text from runs

pub ahead-here : (tables : TableValues) (text : List ℕ) (line : Line) (later : List Line) (runs : List ShapeRun) → AreAhead tables text (line ∷ later) runs → AreFrom tables text line.start runs
ahead-here tables text line later runs h = subst (λ n. AreFrom tables text n runs) (sym h.chain.0) h.are

pub ahead-on : (tables : TableValues) (text : List ℕ) (line : Line) (later : List Line) (runs more : List ShapeRun) → AreAhead tables text (line ∷ later) runs → AreFrom tables text line.end more
    → AreAhead tables text later more
ahead-on tables text line later runs more h are = record { from = line.end; chain = h.chain.1; are = are }

-- ---- the runs of a text

-- the last cluster of a run ends where the run does
module _ (text : List ℕ) (bytes_few : length text ≤ 4_000_000) (points_few : length (code_points text) ≤ 4_000_000) where
  run-within : (run : ShapeRun) → 0 < run.count → All (IsSpan text) (spans_of run) → IsWithin run
  run-within run some slices =
      let last = All-head (IsSpan text) (span_in (behind (run.count - 1) run) 0) []
      (All-back (IsSpan text) (spans_of (front (run.count - 1) run)) (span_in (behind (run.count - 1) run) 0 ∷ []) (subst (All (IsSpan text)) (last-span run some) slices)) in
      let c : run.count ≡ run.count - 1 + 1 = omega arith in
      let b = ap (λ k. k * run.bytes) c in
      let p = ap (λ k. k * run.points) c in
      let has = last.some in
      let end = last.slice.end.0 in
      let in_text = last.within in
      record { points = omega arith; bytes = omega arith; places = omega arith }

  pub runs-within : (runs : List ShapeRun) → AllHaveSome runs → All (IsSpan text) (all_spans runs) → All IsWithin runs
  runs-within [] some slices = All-nil IsWithin
  runs-within (run ∷ later) some slices =
      let s = subst (All (IsSpan text)) (flat_map-cons spans_of run later) slices in
      All-cons IsWithin run later
      (run-within run (All-head (λ (r : ShapeRun). 0 < r.count) run later some) (All-front (IsSpan text) (spans_of run) (all_spans later) s))
      (runs-within later (All-tail (λ (r : ShapeRun). 0 < r.count) run later some) (All-back (IsSpan text) (spans_of run) (all_spans later) s))

pub text-runs : (below : LawsBelow) (tables : TableValues) (text : List ℕ) → IsUtf8 text → length text ≤ 4_000_000 → (runs : List ShapeRun) → AllHaveSome runs → AreFrom tables text 0 runs → All IsWithin runs
text-runs below tables text u size runs some h =
    let n = points-fit text u in
    runs-within text size (omega arith) runs some (subst (All (IsSpan text)) (sym h.spans) (spans-slices below text u))

-- before the first run all are left
module _ (runs : List ShapeRun) (first : ShapeRun) (next : ℕ) (none : first.count ≡ 0) (start : next ≡ 0) where
  pub from-start : (tables : TableValues) (text : List ℕ) → AreFrom tables text 0 runs → AreFrom tables text 0 (first ∷ drop next runs)
  from-start tables text h =
      let all = passed-none first (drop next runs) none in
      record {
        spans = sym all.spans ∙ ap (λ n. all_spans (drop n runs)) start ∙ h.spans;
        sizes = sym all.sizes ∙ ap (λ n. all_sizes (drop n runs)) start ∙ h.sizes;
        columns = sym all.columns ∙ ap (λ n. all_columns (drop n runs)) start ∙ h.columns;
      }

  pub within-start : IsWithin first → All IsWithin runs → All IsWithin (first ∷ drop next runs)
  within-start own all = All-cons IsWithin first (drop next runs) own (subst (λ n. All IsWithin (drop n runs)) (sym start) all)

-- ---- what a line has of them

-- so many of the first clusters of some runs are those of a line
pub record AreLine (tables : TableValues) (text : List ℕ) (line : Line) (count : ℕ) (runs : List ShapeRun) : Type 0 where
  pub spans : take count (all_spans runs) ≡ slice_range (spans text) line.start line.end
  pub sizes : take count (all_sizes runs) ≡ slice_range (cluster_sizes text) line.start line.end
  pub columns : take count (all_columns runs) ≡ slice_range (own_columns tables text) line.start line.end

module _ (tables : TableValues) (text : List ℕ) (line : Line) (count : ℕ) (runs : List ShapeRun) (le : line.start ≤ line.end) (n : count ≡ line.end - line.start)
    (h : AreFrom tables text line.start runs) where
  pub line-next : AreLine tables text line count runs
  line-next = record {
    spans = ap (λ k. take k (all_spans runs)) n ∙ ap (take (line.end - line.start)) h.spans;
    sizes = ap (λ k. take k (all_sizes runs)) n ∙ ap (take (line.end - line.start)) h.sizes;
    columns = ap (λ k. take k (all_columns runs)) n ∙ ap (take (line.end - line.start)) h.columns;
  }

  rest-is : {X : Type 0} (all xs later : List X) → xs ≡ drop line.start all → later ≡ drop count xs → later ≡ drop line.end all
  rest-is all xs later a b =
      let e : line.start + count ≡ line.end = omega arith in
      b ∙ ap (drop count) a ∙ drop-drop count line.start all ∙ ap (λ k. drop k all) e

  pub line-later : (later : List ShapeRun) → ArePassed count runs later → AreFrom tables text line.end later
  line-later later p = record {
    spans = rest-is (spans text) (all_spans runs) (all_spans later) h.spans p.spans;
    sizes = rest-is (cluster_sizes text) (all_sizes runs) (all_sizes later) h.sizes p.sizes;
    columns = rest-is (own_columns tables text) (all_columns runs) (all_columns later) h.columns p.columns;
  }

-- as many clusters are left as the line has
pub line-ahead : (tables : TableValues) (text : List ℕ) (line : Line) (runs : List ShapeRun) → line.end ≤ length (clusters text) → AreFrom tables text line.start runs
    → line.end - line.start ≤ length (all_spans runs)
line-ahead tables text line runs within h =
    let n = ap length h.spans ∙ length-drop line.start (spans text) in
    let m = length-spans_of text in
    omega arith

-- ---- its row

pub length-after : (para : ℕ) (cs : List Bidi) (levels : List ℕ) → length levels ≡ length cs → length (levels_after_l1 para cs levels) ≡ length cs
length-after para [] levels n = refl
length-after para (c ∷ cs) [] n = absurd (omega arith)
length-after para (c ∷ cs) (l ∷ ls) n = ap suc (length-after para cs ls (omega arith))

module _ (tables : TableValues) (width para : ℕ) (text levels : List ℕ) (line : Line) (h : IsLine tables width text line) (count : ℕ) (runs : List ShapeRun) (p : AreLine tables text line count runs)
    (whole : Span) (at : whole ≡ extent (take count (all_spans runs))) where
  whole-is : whole ≡ extent (slice_range (spans text) line.start line.end)
  whole-is = at ∙ ap extent p.spans

  pub whole-order : whole.first_place ≤ whole.end_place
  whole-order = subst (λ (s : Span). s.first_place ≤ s.end_place) (sym whole-is) h.stand.places

  pub whole-within : whole.end_place ≤ length (code_points text)
  whole-within = subst (λ (s : Span). s.end_place ≤ length (code_points text)) (sym whole-is) h.stand.within

  module _ (after : List ℕ) (long : length levels ≡ length (code_points text))
      (l1 : after ≡ levels_after_l1 para (slice_range (classes_of tables text) whole.first_place whole.end_place) (slice_range levels whole.first_place whole.end_place)) where
    pub after-long : sum (take count (all_sizes runs)) ≡ length after
    after-long =
        let order = whole-order in
        let within = whole-within in
        let first = ap (λ (s : Span). s.first_place) whole-is in
        let end = ap (λ (s : Span). s.end_place) whole-is in
        let all = ap sum p.sizes ∙ h.stand.whole in
        let cs = length-map (code_points text) (bidi_of tables) in
        let a = length-slice (classes_of tables text) whole.first_place whole.end_place order (omega arith) in
        let b = length-slice levels whole.first_place whole.end_place order (omega arith) in
        let n = ap length l1 ∙ length-after para (slice_range (classes_of tables text) whole.first_place whole.end_place) (slice_range levels whole.first_place whole.end_place) (b ∙ sym a) in
        omega arith

    after-is : group_firsts (take count (all_sizes runs)) after
        ≡ levels_in_line tables text levels para (slice_range (spans text) line.start line.end) (slice_range (cluster_sizes text) line.start line.end)
    after-is =
        let sp = slice_range (spans text) line.start line.end in
        ap (group_firsts (take count (all_sizes runs))) l1
        ∙ ap (λ (s : Span). group_firsts (take count (all_sizes runs)) (levels_after_l1 para (slice_range (classes_of tables text) s.first_place s.end_place) (slice_range levels s.first_place s.end_place))) whole-is
        ∙ ap (λ l. group_firsts (take count (all_sizes runs)) (levels_after_l1 para l (slice_range levels (extent (slice_range (spans text) line.start line.end)).first_place (extent (slice_range (spans text) line.start line.end)).end_place)))
        (slice-map (code_points text) (bidi_of tables) (extent (slice_range (spans text) line.start line.end)).first_place (extent (slice_range (spans text) line.start line.end)).end_place
        ∙ ap (map (bidi_of tables)) (sym h.stand.points))
        ∙ ap (λ l. levels_in_line tables text levels para (slice_range (spans text) line.start line.end) l) p.sizes

    module _ (pieces : List ClusterRun) (same_spans : piece_spans pieces ≡ take count (all_spans runs)) (same_levels : levels_of pieces ≡ group_firsts (take count (all_sizes runs)) after)
        (same_columns : columns_of pieces ≡ hung width (take count (all_columns runs))) where
      pub row-pieces : row_with width para (piece_spans pieces) (levels_of pieces) (columns_of pieces) ≡ row_of tables width para text levels line
      row-pieces =
          let sp = slice_range (spans text) line.start line.end in
          let columns = same_columns ∙ ap (hung width) p.columns ∙ hung-columns tables width text line h in
          ap (λ l. row_with width para l (levels_of pieces) (columns_of pieces)) (same_spans ∙ p.spans)
          ∙ ap (λ l. row_with width para (slice_range (spans text) line.start line.end) l (columns_of pieces)) (same_levels ∙ after-is)
          ∙ ap (row_with width para (slice_range (spans text) line.start line.end)
          (levels_in_line tables text levels para (slice_range (spans text) line.start line.end) (slice_range (cluster_sizes text) line.start line.end))) columns
