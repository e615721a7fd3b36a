-- The entries of a line are those of its pieces from left to right.
use Rattle.std.proofs.Common.{◌≡◌, ℕ, zero, suc, ◌+◌, ◌-◌, ◌*◌, ◌<◌, ◌≤◌, true, false, cond, List, [], ◌∷◌, ◌++◌, map, length, take, get_or, reverse, replicate, flat_map, sum_by, IsPermutation, refl, sym, ap, subst, ◌∙◌, arith, append-nil, length-append}
use Rattle.std.proofs.lemmas.List.{ext_get_or, get_or_default, get_or-replicate, get_or-reverse, length-replicate, length-map, length-reverse}
use Rattle.std.proofs.lemmas.List.Concat.{flat_map-cons, get_or-flat_map}
use Rattle.std.proofs.lemmas.List.Elements.{All-head, All-tail, All-map}
use Rattle.std.proofs.lemmas.List.Folds.{flat_map-map}
use Rattle.std.proofs.lemmas.List.FromFn.{length-range_with_len, get_or-range_with_len, length-map-range_with_len, get_or-map-range_with_len}
use Rattle.std.proofs.lemmas.List.Sorted.{IsPermutation-map}
use Rattle.std.proofs.lemmas.List.Sums.{sum_by-cons}
use Rattle.std.proofs.lemmas.Simd.{map-map}
use Rattle.std.proofs.Math.ListN.{get_or-map}
use Rattle.std.specs.List.{All, range_with_len}
use Rattle.reorder.specs.Pieces.{LevelPiece, count_of, piece_order}
use Rattle.reorder.specs.Pieces.{levels_of as piece_levels, no_piece as no_level}
use Rattle.reorder.specs.VisualList.{is_odd, visual_list}
use Rattle.paragraphs.specs.declared.span.Span.{Span}
use Rattle.cell_grid.specs.declared.cluster_run.ClusterRun.{ClusterRun}
use Rattle.cell_grid.specs.declared.entry.Entry.{Entry}
use Rattle.cell_grid.specs.Cells.{total}
use Rattle.cell_grid.specs.LawsBelow.{LawsBelow}
use Rattle.cell_grid.specs.Pieces.{run_spans, run_levels, run_widths, spans_of, levels_of, columns_of, no_piece, piece_at, arranged}
use Rattle.cell_grid.specs.Rows.{entries_from}
use Rattle.cell_grid.specs.Runs.{run_span, span_after, cluster_count, cluster_from_left, run_entry, run_entries, run_columns, runs_entries}
use Rattle.cell_grid.specs.Spans.{extent}
use Rattle.cell_grid.proofs.Cutting.{rising}
use Rattle.cell_grid.proofs.RunEntries.{total-runs}
use Rattle.cell_grid.proofs.Sides.{order-below, total-entries_from, map-numbers}

-- ---- how many clusters pieces have

abbrev pub counts : List ClusterRun → ℕ
counts pieces = sum_by cluster_count pieces

pub length-spans : (ps : List ClusterRun) → length (spans_of ps) ≡ counts ps
length-spans [] = refl
length-spans (r ∷ ps) =
    ap length (flat_map-cons run_spans r ps) ∙ length-append (run_spans r) (spans_of ps)
    ∙ ap (λ n. n + length (spans_of ps)) (length-map-range_with_len (λ k. span_after k (run_span r)) 0 (cluster_count r))
    ∙ ap (λ n. cluster_count r + n) (length-spans ps) ∙ sym (sum_by-cons cluster_count r ps)

pub length-levels : (ps : List ClusterRun) → length (levels_of ps) ≡ counts ps
length-levels [] = refl
length-levels (r ∷ ps) =
    ap length (flat_map-cons run_levels r ps) ∙ length-append (run_levels r) (levels_of ps)
    ∙ ap (λ n. n + length (levels_of ps)) (length-replicate (cluster_count r) r.level)
    ∙ ap (λ n. cluster_count r + n) (length-levels ps) ∙ sym (sum_by-cons cluster_count r ps)

pub length-columns : (ps : List ClusterRun) → length (columns_of ps) ≡ counts ps
length-columns [] = refl
length-columns (r ∷ ps) =
    ap length (flat_map-cons run_widths r ps) ∙ length-append (run_widths r) (columns_of ps)
    ∙ ap (λ n. n + length (columns_of ps)) (length-replicate (cluster_count r) r.columns)
    ∙ ap (λ n. cluster_count r + n) (length-columns ps) ∙ sym (sum_by-cons cluster_count r ps)

-- ---- pieces by their levels alone, as `reorder` has them

abbrev level_piece : ClusterRun → LevelPiece
level_piece r = record { count = cluster_count r; level = r.level }

abbrev level_pieces : List ClusterRun → List LevelPiece
level_pieces ps = map level_piece ps

same-levels : (ps : List ClusterRun) → piece_levels (level_pieces ps) ≡ levels_of ps
same-levels ps = flat_map-map (λ (p : LevelPiece). replicate p.count p.level) level_piece ps

same-own : (ps : List ClusterRun) → map (λ (p : LevelPiece). p.level) (level_pieces ps) ≡ map (λ (r : ClusterRun). r.level) ps
same-own ps = map-map (λ (p : LevelPiece). p.level) level_piece ps

all-some : (ps : List ClusterRun) → All (λ (p : LevelPiece). 0 < p.count) (level_pieces ps)
all-some ps = All-map (λ (p : LevelPiece). 0 < p.count) level_piece ps (λ k d lt. omega arith)

before-is : (k : ℕ) (ps : List ClusterRun) → count_of (take k (level_pieces ps)) ≡ counts (take k ps)
before-is zero ps = refl
before-is (suc k) [] = refl
before-is (suc k) (r ∷ ps) =
    sum_by-cons (λ (p : LevelPiece). p.count) (level_piece r) (take k (level_pieces ps))
    ∙ ap (λ n. cluster_count r + n) (before-is k ps) ∙ sym (sum_by-cons cluster_count r (take k ps))

-- ---- numbers, falling

falling : (b further : ℕ) → reverse (range_with_len b (further + 1)) ≡ map (λ i. b + (further - i)) (range_with_len 0 (further + 1))
falling b further =
    let n = length-range_with_len b (further + 1) in
    let r = length-reverse (range_with_len b (further + 1)) in
    let m = length-map-range_with_len (λ i. b + (further - i)) 0 (further + 1) in
    ext_get_or 0 (reverse (range_with_len b (further + 1))) (map (λ i. b + (further - i)) (range_with_len 0 (further + 1))) (r ∙ n ∙ sym m)
    (λ i lt.
    let within : i < further + 1 = omega arith in
    let k : length (range_with_len b (further + 1)) - 1 - i ≡ further - i = omega arith in
    get_or-reverse (range_with_len b (further + 1)) i 0 (omega arith)
    ∙ ap (λ j. get_or (range_with_len b (further + 1)) j 0) k
    ∙ get_or-range_with_len b (further + 1) (further - i) 0 (omega arith)
    ∙ sym (get_or-map-range_with_len (λ i. b + (further - i)) 0 (further + 1) i i 0 within (omega arith)))

-- ---- the entries of one piece

entry_by : Span → (column level columns : ℕ) → Entry
entry_by s column level columns = record { span = s; level = level; column = column; columns = columns }

module _ (spans : List Span) (levels columns : List ℕ) where
  -- those of clusters whose numbers are given by their place in the row
  module _ (at : ℕ → ℕ) (r : ClusterRun) (n : ℕ)
      (span : (i : ℕ) → i < n → get_or spans (at i) (extent []) ≡ span_after (cluster_from_left r i) (run_span r))
      (level : (i : ℕ) → i < n → get_or levels (at i) 0 ≡ r.level)
      (wide : (i : ℕ) → i < n → get_or columns (at i) 0 ≡ r.columns) where
    entry-is : (column from : ℕ) → from < n
        → entry_by (get_or spans (at from) (extent [])) (column + from * r.columns) (get_or levels (at from) 0) (get_or columns (at from) 0) ≡ run_entry column r from
    unfolding entry_by
    entry-is column from lt =
        ap (λ s. entry_by s (column + from * r.columns) (get_or levels (at from) 0) (get_or columns (at from) 0)) (span from lt)
        ∙ ap (λ l. entry_by (span_after (cluster_from_left r from) (run_span r)) (column + from * r.columns) l (get_or columns (at from) 0)) (level from lt)
        ∙ ap (entry_by (span_after (cluster_from_left r from) (run_span r)) (column + from * r.columns) r.level) (wide from lt)

    numbered : (column from m : ℕ) → from + m ≡ n
        → entries_from spans levels columns (column + from * r.columns) (map at (range_with_len from m)) ≡ map (run_entry column r) (range_with_len from m)
    unfolding entry_by
    numbered column from zero e = refl
    numbered column from (suc m) e =
        let own = wide from (omega arith) in
        let next : column + from * r.columns + get_or columns (at from) 0 ≡ column + (from + 1) * r.columns = omega arith in
        ap (λ x. x ∷ entries_from spans levels columns (column + from * r.columns + get_or columns (at from) 0) (map at (range_with_len (from + 1) m))) (entry-is column from (omega arith))
        ∙ ap (λ l. run_entry column r from ∷ l)
        (ap (λ k. entries_from spans levels columns k (map at (range_with_len (from + 1) m))) next ∙ numbered column (from + 1) m (omega arith))

    pub numbered-all : (column : ℕ) → entries_from spans levels columns column (map at (range_with_len 0 n)) ≡ map (run_entry column r) (range_with_len 0 n)
    numbered-all column =
        let e : column ≡ column + 0 * r.columns = omega arith in
        ap (λ k. entries_from spans levels columns k (map at (range_with_len 0 n))) e ∙ numbered column 0 n (omega arith)

  entries-append : (column : ℕ) (xs ys : List ℕ) → entries_from spans levels columns column (xs ++ ys)
      ≡ entries_from spans levels columns column xs ++ entries_from spans levels columns (column + sum_by (λ k. get_or columns k 0) xs) ys
  entries-append column [] ys = let e : column ≡ column + 0 = omega arith in ap (λ k. entries_from spans levels columns k ys) e
  entries-append column (k ∷ xs) ys =
      let all = sum_by-cons (λ j. get_or columns j 0) k xs in
      let e : column + get_or columns k 0 + sum_by (λ j. get_or columns j 0) xs ≡ column + sum_by (λ j. get_or columns j 0) (k ∷ xs) = omega arith in
      ap (λ l. record { span = get_or spans k (extent []); level = get_or levels k 0; column = column; columns = get_or columns k 0 } ∷ l)
      (entries-append (column + get_or columns k 0) xs ys
      ∙ ap (λ j. entries_from spans levels columns (column + get_or columns k 0) xs ++ entries_from spans levels columns j ys) e)

module _ (ps : List ClusterRun) (k : ℕ) (lt : k < length ps) where
  its : ClusterRun
  its = piece_at ps k

  first : ℕ
  first = counts (take k ps)

  order-is : piece_order (level_pieces ps) k ≡ map (λ i. first + cluster_from_left its i) (range_with_len 0 (cluster_count its))
  unfolding its first
  order-is =
      let n = length-map ps level_piece in
      let same = get_or_default (level_pieces ps) k no_level (level_piece no_piece) (omega arith) ∙ get_or-map level_piece ps k no_piece in
      let r = piece_at ps k in
      ap (λ (p : LevelPiece). cond (is_odd p.level) (reverse (range_with_len (count_of (take k (level_pieces ps))) p.count)) (range_with_len (count_of (take k (level_pieces ps))) p.count)) same
      ∙ ap (λ b. cond (is_odd r.level) (reverse (range_with_len b (cluster_count r))) (range_with_len b (cluster_count r))) (before-is k ps)
      ∙ elim (is_odd r.level) as (λ o. cond o (reverse (range_with_len (counts (take k ps)) (cluster_count r))) (range_with_len (counts (take k ps)) (cluster_count r))
      ≡ map (λ i. counts (take k ps) + cond o (r.span.further - i) i) (range_with_len 0 (cluster_count r))) [
        | true ↦ falling (counts (take k ps)) r.span.further
        | false ↦ (let e : counts (take k ps) ≡ counts (take k ps) + 0 = omega arith in ap (λ b. range_with_len b (cluster_count r)) e ∙ rising (counts (take k ps)) 0 (cluster_count r))
      ]

  -- its clusters among all
  from-left : (i : ℕ) → i < cluster_count its → cluster_from_left its i < cluster_count its
  unfolding its
  from-left i within = elim (is_odd (piece_at ps k).level) as (λ o. cond o ((piece_at ps k).span.further - i) i < cluster_count (piece_at ps k)) [ true ↦ omega arith | false ↦ omega arith ]

  its-span : (j : ℕ) → j < cluster_count its → get_or (spans_of ps) (first + j) (extent []) ≡ span_after j (run_span its)
  unfolding its first
  its-span j within =
      let r = piece_at ps k in
      let n = length-map-range_with_len (λ i. span_after i (run_span r)) 0 (cluster_count r) in
      ap (λ b. get_or (spans_of ps) (b + j) (extent [])) (sym (length-spans (take k ps)))
      ∙ get_or-flat_map run_spans ps k j no_piece (extent []) lt (omega arith)
      ∙ get_or-map-range_with_len (λ i. span_after i (run_span r)) 0 (cluster_count r) j j (extent []) within (omega arith)

  its-level : (j : ℕ) → j < cluster_count its → get_or (levels_of ps) (first + j) 0 ≡ its.level
  unfolding its first
  its-level j within =
      let r = piece_at ps k in
      let n = length-replicate (cluster_count r) r.level in
      ap (λ b. get_or (levels_of ps) (b + j) 0) (sym (length-levels (take k ps)))
      ∙ get_or-flat_map run_levels ps k j no_piece 0 lt (omega arith)
      ∙ get_or-replicate (cluster_count r) j r.level 0 within

  its-columns : (j : ℕ) → j < cluster_count its → get_or (columns_of ps) (first + j) 0 ≡ its.columns
  unfolding its first
  its-columns j within =
      let r = piece_at ps k in
      let n = length-replicate (cluster_count r) r.columns in
      ap (λ b. get_or (columns_of ps) (b + j) 0) (sym (length-columns (take k ps)))
      ∙ get_or-flat_map run_widths ps k j no_piece 0 lt (omega arith)
      ∙ get_or-replicate (cluster_count r) j r.columns 0 within

  its-entries : (column : ℕ) → entries_from (spans_of ps) (levels_of ps) (columns_of ps) column (piece_order (level_pieces ps) k) ≡ run_entries column its
  its-entries column =
      ap (entries_from (spans_of ps) (levels_of ps) (columns_of ps) column) order-is
      ∙ numbered-all (spans_of ps) (levels_of ps) (columns_of ps) (λ i. first + cluster_from_left its i) its (cluster_count its)
      (λ i within. its-span (cluster_from_left its i) (from-left i within))
      (λ i within. its-level (cluster_from_left its i) (from-left i within))
      (λ i within. its-columns (cluster_from_left its i) (from-left i within)) column

  its-width : sum_by (λ j. get_or (columns_of ps) j 0) (piece_order (level_pieces ps) k) ≡ run_columns its
  its-width =
      sym (total-entries_from (spans_of ps) (levels_of ps) (columns_of ps) 0 (piece_order (level_pieces ps) k))
      ∙ ap total (its-entries 0 ∙ sym (append-nil (run_entries 0 its)))
      ∙ total-runs 0 (its ∷ []) ∙ sum_by-cons run_columns its [] ∙ (let e : run_columns its + 0 ≡ run_columns its = omega arith in e)

-- ---- the entries of all pieces

entries-pieces : (ps : List ClusterRun) (column : ℕ) (order : List ℕ) → All (λ k. k < length ps) order
    → entries_from (spans_of ps) (levels_of ps) (columns_of ps) column (flat_map (piece_order (level_pieces ps)) order) ≡ runs_entries column (map (piece_at ps) order)
unfolding its
entries-pieces ps column [] below = refl
entries-pieces ps column (k ∷ order) below =
    let lt = All-head (λ j. j < length ps) k order below in
    let entries = entries_from (spans_of ps) (levels_of ps) (columns_of ps) in
    let later = flat_map (piece_order (level_pieces ps)) order in
    ap (entries_from (spans_of ps) (levels_of ps) (columns_of ps) column) (flat_map-cons (piece_order (level_pieces ps)) k order)
    ∙ entries-append (spans_of ps) (levels_of ps) (columns_of ps) column (piece_order (level_pieces ps) k) later
    ∙ ap (λ l. l ++ entries_from (spans_of ps) (levels_of ps) (columns_of ps) (column + sum_by (λ j. get_or (columns_of ps) j 0) (piece_order (level_pieces ps) k)) later) (its-entries ps k lt column)
    ∙ ap (λ n. run_entries column (piece_at ps k) ++ entries_from (spans_of ps) (levels_of ps) (columns_of ps) (column + n) later) (its-width ps k lt)
    ∙ ap (λ l. run_entries column (piece_at ps k) ++ l)
    (entries-pieces ps (column + run_columns (piece_at ps k)) order (All-tail (λ j. j < length ps) k order below))

module _ (below : LawsBelow) (ps : List ClusterRun) where
  abbrev own : List ℕ
  own = map (λ (r : ClusterRun). r.level) ps

  -- the order of the pieces has each once
  own-order : IsPermutation (range_with_len 0 (length ps)) (visual_list own)
  own-order = subst (λ n. IsPermutation (range_with_len 0 n) (visual_list (map (λ (r : ClusterRun). r.level) ps))) (length-map ps (λ (r : ClusterRun). r.level)) (below.rearrangement own)

  pub arranged-permutes : IsPermutation ps (arranged ps)
  arranged-permutes =
      subst (λ l. IsPermutation l (arranged ps)) (map-numbers ps no_piece)
      (IsPermutation-map (piece_at ps) (range_with_len 0 (length ps)) (visual_list own) own-order)

  pub entries-arranged : (column : ℕ) → entries_from (spans_of ps) (levels_of ps) (columns_of ps) column (visual_list (levels_of ps)) ≡ runs_entries column (arranged ps)
  entries-arranged column =
      let order = ap visual_list (sym (same-levels ps)) ∙ below.pieces_move_as_one (level_pieces ps) (all-some ps)
      ∙ ap (λ l. flat_map (piece_order (level_pieces ps)) (visual_list l)) (same-own ps) in
      ap (entries_from (spans_of ps) (levels_of ps) (columns_of ps) column) order
      ∙ entries-pieces ps column (visual_list own) (order-below (length ps) (visual_list own) own-order)

-- no more pieces than clusters
pub few-pieces : (ps : List ClusterRun) → length ps ≤ counts ps
few-pieces [] = omega arith
few-pieces (r ∷ ps) = let all = sum_by-cons cluster_count r ps in let later = few-pieces ps in omega arith
