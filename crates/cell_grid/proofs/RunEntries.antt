-- The entries of runs: how many there are, and where they stand.
use Rattle.std.proofs.Common.{◌≡◌, ℕ, zero, suc, ◌+◌, ◌*◌, ◌<◌, ◌≤◌, List, [], ◌∷◌, ◌++◌, map, length, drop, get_or, slice_get, Some, refl, sym, ap, subst, ◌∙◌, arith, append_assoc, length-append}
use Rattle.std.proofs.lemmas.List.{drop_at}
use Rattle.std.proofs.lemmas.List.FromFn.{length-map-range_with_len}
use Rattle.std.proofs.lemmas.List.Sums.{sum_by-cons}
use Rattle.std.specs.List.{range_with_len}
use Rattle.cell_grid.specs.declared.cluster_run.ClusterRun.{ClusterRun}
use Rattle.cell_grid.specs.declared.entry.Entry.{Entry}
use Rattle.cell_grid.specs.Cells.{ColumnsFollow, total}
use Rattle.cell_grid.specs.Runs.{cluster_count, run_entry, run_entries, run_columns, runs_columns, runs_entries, first_further}
use Rattle.cell_grid.proofs.Lookups.{get-left, get-right}
use Rattle.cell_grid.proofs.Numbered.{get-numbered}
use Rattle.cell_grid.proofs.Sides.{same_follow}
use Rattle.cell_grid.proofs.Steps.{drop-next}

pub length-run_entries : (column : ℕ) (r : ClusterRun) → length (run_entries column r) ≡ cluster_count r
length-run_entries column r = length-map-range_with_len (run_entry column r) 0 (cluster_count r)

-- ---- the first run, and those behind it

module _ (column : ℕ) (r : ClusterRun) (later : List ClusterRun) where
  pub get-first : (k : ℕ) → k < cluster_count r → slice_get (runs_entries column (r ∷ later)) k ≡ Some (run_entry column r k)
  get-first k lt =
      let n = length-run_entries column r in
      get-left (run_entries column r) (runs_entries (column + run_columns r) later) k (omega arith) ∙ get-numbered (run_entry column r) (cluster_count r) k lt

  pub get-later : (k : ℕ) → slice_get (runs_entries column (r ∷ later)) (cluster_count r + k) ≡ slice_get (runs_entries (column + run_columns r) later) k
  get-later k = get-right (run_entries column r) (runs_entries (column + run_columns r) later) (cluster_count r) k (length-run_entries column r)

  pub drop-first : drop (cluster_count r) (runs_entries column (r ∷ later)) ≡ runs_entries (column + run_columns r) later
  drop-first = drop_at (run_entries column r) (runs_entries (column + run_columns r) later) (cluster_count r) (length-run_entries column r)

  pub length-first : length (runs_entries column (r ∷ later)) ≡ cluster_count r + length (runs_entries (column + run_columns r) later)
  length-first =
      length-append (run_entries column r) (runs_entries (column + run_columns r) later)
      ∙ ap (λ n. n + length (runs_entries (column + run_columns r) later)) (length-run_entries column r)

  pub columns-first : runs_columns (r ∷ later) ≡ run_columns r + runs_columns later
  columns-first = sum_by-cons run_columns r later

-- the same of the runs from one on
module _ (column : ℕ) (runs : List ClusterRun) (i : ℕ) (r d : ClusterRun) (lt : i < length runs) (is : r ≡ get_or runs i d) where
  from-next : drop i runs ≡ r ∷ drop (i + 1) runs
  from-next = drop-next runs i r d lt is

  pub rest-first : (k : ℕ) → k < cluster_count r → slice_get (runs_entries column (drop i runs)) k ≡ Some (run_entry column r k)
  rest-first k within = ap (λ l. slice_get (runs_entries column l) k) from-next ∙ get-first column r (drop (i + 1) runs) k within

  pub rest-later : (k : ℕ) → slice_get (runs_entries column (drop i runs)) (cluster_count r + k) ≡ slice_get (runs_entries (column + run_columns r) (drop (i + 1) runs)) k
  rest-later k = ap (λ l. slice_get (runs_entries column l) (cluster_count r + k)) from-next ∙ get-later column r (drop (i + 1) runs) k

  pub rest-drop : drop (cluster_count r) (runs_entries column (drop i runs)) ≡ runs_entries (column + run_columns r) (drop (i + 1) runs)
  rest-drop = ap (λ l. drop (cluster_count r) (runs_entries column l)) from-next ∙ drop-first column r (drop (i + 1) runs)

  pub rest-length : length (runs_entries column (drop i runs)) ≡ cluster_count r + length (runs_entries (column + run_columns r) (drop (i + 1) runs))
  rest-length = ap (λ l. length (runs_entries column l)) from-next ∙ length-first column r (drop (i + 1) runs)

  pub rest-columns : runs_columns (drop i runs) ≡ run_columns r + runs_columns (drop (i + 1) runs)
  rest-columns = ap runs_columns from-next ∙ columns-first column r (drop (i + 1) runs)

pub first_further-is : (runs : List ClusterRun) (r d : ClusterRun) → 0 < length runs → r ≡ get_or runs 0 d → first_further runs ≡ r.span.further
first_further-is [] r d some is = absurd (omega arith)
first_further-is (x ∷ later) r d some is = ap (λ (y : ClusterRun). y.span.further) (sym is)

pub runs_entries-append : (column : ℕ) (xs ys : List ClusterRun) → runs_entries column (xs ++ ys) ≡ runs_entries column xs ++ runs_entries (column + runs_columns xs) ys
runs_entries-append column [] ys = let e : column ≡ column + 0 = omega arith in ap (λ c. runs_entries c ys) e
runs_entries-append column (r ∷ xs) ys =
    let all = columns-first column r xs in
    let next : column + run_columns r + runs_columns xs ≡ column + runs_columns (r ∷ xs) = omega arith in
    ap (λ l. run_entries column r ++ l)
    (runs_entries-append (column + run_columns r) xs ys
    ∙ ap (λ c. runs_entries (column + run_columns r) xs ++ runs_entries c ys) next)
    ∙ sym (append_assoc (run_entries column r) (runs_entries (column + run_columns r) xs) (runs_entries (column + runs_columns (r ∷ xs)) ys))

-- ---- they stand side by side

pub follow-append : (from mid to : ℕ) (xs ys : List Entry) → ColumnsFollow from xs mid → ColumnsFollow mid ys to → ColumnsFollow from (xs ++ ys) to
follow-append from mid to [] ys a b = subst (λ k. ColumnsFollow k ys to) (sym a) b
follow-append from mid to (x ∷ xs) ys a b = (a.0, follow-append (x.column + x.columns) mid to xs ys a.1 b)

follow-range : (column : ℕ) (r : ClusterRun) (first n : ℕ)
    → ColumnsFollow (column + first * r.columns) (map (run_entry column r) (range_with_len first n)) (column + (first + n) * r.columns)
follow-range column r first zero = let e : first ≡ first + 0 = omega arith in ap (λ k. column + k * r.columns) e
follow-range column r first (suc n) =
    let rest = map (run_entry column r) (range_with_len (first + 1) n) in
    let from : column + (first + 1) * r.columns ≡ column + first * r.columns + r.columns = omega arith in
    let to : first + 1 + n ≡ first + suc n = omega arith in (
      refl,
      subst (λ k. ColumnsFollow k rest (column + (first + suc n) * r.columns)) from
          (subst (λ k. ColumnsFollow (column + (first + 1) * r.columns) rest (column + k * r.columns)) to (follow-range column r (first + 1) n)),
    )

follow-run : (column : ℕ) (r : ClusterRun) → ColumnsFollow column (run_entries column r) (column + run_columns r)
follow-run column r =
    let from : column + 0 * r.columns ≡ column = omega arith in
    let to : 0 + cluster_count r ≡ cluster_count r = omega arith in
    subst (λ k. ColumnsFollow k (run_entries column r) (column + run_columns r)) from
    (subst (λ k. ColumnsFollow (column + 0 * r.columns) (run_entries column r) (column + k * r.columns)) to (follow-range column r 0 (cluster_count r)))

pub follow-runs : (column : ℕ) (runs : List ClusterRun) → ColumnsFollow column (runs_entries column runs) (column + runs_columns runs)
follow-runs column [] = omega arith
follow-runs column (r ∷ later) =
    let all = columns-first column r later in
    let to : column + run_columns r + runs_columns later ≡ column + runs_columns (r ∷ later) = omega arith in
    follow-append column (column + run_columns r) (column + runs_columns (r ∷ later)) (run_entries column r) (runs_entries (column + run_columns r) later)
    (follow-run column r)
    (same_follow (column + run_columns r) (runs_entries (column + run_columns r) later) _ _ to (follow-runs (column + run_columns r) later))

pub follow-total : (from to : ℕ) (es : List Entry) → ColumnsFollow from es to → from + total es ≡ to
follow-total from to [] h = omega (arith, h)
follow-total from to (e ∷ es) h =
    let all = sum_by-cons (λ (x : Entry). x.columns) e es in
    let later = follow-total (e.column + e.columns) to es h.1 in
    let at = h.0 in
    omega arith

-- as many columns as the entries have
pub total-runs : (column : ℕ) (runs : List ClusterRun) → total (runs_entries column runs) ≡ runs_columns runs
total-runs column runs =
    let end = follow-total column (column + runs_columns runs) (runs_entries column runs) (follow-runs column runs) in
    omega arith

-- no entry ends behind the last
pub ends-by : (from to : ℕ) (es : List Entry) → ColumnsFollow from es to → (n : ℕ) (e : Entry) → slice_get es n ≡ Some e → e.column + e.columns ≤ to
ends-by from to [] f n e is = cc
ends-by from to (x ∷ es) f zero e is =
    let same : x ≡ e = cc in
    let at = ap (λ (y : Entry). y.column) same in
    let wide = ap (λ (y : Entry). y.columns) same in
    let later = follow-total (x.column + x.columns) to es f.1 in
    omega arith
ends-by from to (x ∷ es) f (suc n) e is = ends-by (x.column + x.columns) to es f.1 n e is
