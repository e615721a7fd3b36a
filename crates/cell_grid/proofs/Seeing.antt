-- What is seen in a column of runs.
use Rattle.std.proofs.Common.{◌≡◌, ℕ, zero, suc, ◌+◌, ◌-◌, ◌*◌, ◌/◌, ◌%◌, ◌<◌, ◌≤◌, List, [], ◌∷◌, length, drop, get_or, slice_get, Some, refl, sym, ap, subst, ◌∙◌, arith, inl, inr}
use Rattle.std.proofs.lemmas.Bool.{cases_lt}
use Rattle.std.proofs.lemmas.Nat.{div-add-mod', div_below, mod_below}
use Rattle.cell_grid.specs.declared.cluster_run.ClusterRun.{ClusterRun}
use Rattle.cell_grid.specs.declared.cell.Cell.TheVariants.{Blank, Head, Tail}
use Rattle.cell_grid.specs.Cells.{IsSeenAt}
use Rattle.cell_grid.specs.Runs.{cluster_count, run_entry, run_columns, runs_columns, runs_entries}
use Rattle.cell_grid.proofs.Celled.{from-at}
use Rattle.cell_grid.proofs.RunEntries.{follow-runs, ends-by, rest-first}

get-drop : {X : Type 0} (xs : List X) (n k : ℕ) → slice_get (drop n xs) k ≡ slice_get xs (n + k)
get-drop xs zero k = let e : k ≡ 0 + k = omega arith in ap (slice_get xs) e
get-drop [] (suc n) k = refl
get-drop (x ∷ xs) (suc n) k = let e : suc (n + k) ≡ suc n + k = omega arith in get-drop xs n k ∙ ap (slice_get (x ∷ xs)) e

some-of : (count columns n : ℕ) → n < count * columns → 0 < columns
some-of count zero n lt = absurd (omega arith)
some-of count (suc columns) n lt = omega arith

-- where a column stands among those of q entries of this size, and so many behind them
at-head : (left column q size rem : ℕ) → q * size + rem ≡ column - left → rem ≡ 0 → left ≤ column → left + q * size ≡ column
at-head left column q size rem split none low = omega arith

behind-head : (left column q size rem : ℕ) → q * size + rem ≡ column - left → (rem ≡ 0 → ⊥) → left + q * size < column
behind-head left column q size rem split more =
    elim (cases_lt 0 rem) [
      | inl some ↦ omega (arith, some)
      | inr none ↦ absurd (more (omega (arith, none)))
    ]

before-end : (left column q size rem : ℕ) → q * size + rem ≡ column - left → rem < size → left ≤ column → column < left + q * size + size
before-end left column q size rem split below low = omega arith

module _ (start column : ℕ) (runs : List ClusterRun) where
  -- nothing left of the first, and nothing right of the last
  pub before-all : column < start → IsSeenAt (runs_entries start runs) column Blank
  before-all left = λ n e is low high.
      let least = from-at start (start + runs_columns runs) (runs_entries start runs) (follow-runs start runs) n e is in
      absurd (omega arith)

  pub behind-all : start + runs_columns runs ≤ column → IsSeenAt (runs_entries start runs) column Blank
  behind-all right = λ n e is low high.
      let most = ends-by start (start + runs_columns runs) (runs_entries start runs) (follow-runs start runs) n e is in
      absurd (omega arith)

  module _ (number left i : ℕ) (r d : ClusterRun) (lt : i < length runs) (is : r ≡ get_or runs i d)
      (among : drop number (runs_entries start runs) ≡ runs_entries left (drop i runs)) (low : left ≤ column) (high : column < left + run_columns r) (size : ℕ) (wide : size ≡ r.columns) where
    within : column - left < cluster_count r * size
    within = let same = ap (λ n. cluster_count r * n) wide in omega arith

    pub some : 0 < size
    some = some-of (cluster_count r) size (column - left) within

    pub which-within : (column - left) / size < cluster_count r
    which-within = div_below (column - left) size (cluster_count r) some within

    here : slice_get (runs_entries start runs) (number + (column - left) / size) ≡ Some (run_entry left r ((column - left) / size))
    here =
        sym (get-drop (runs_entries start runs) number ((column - left) / size))
        ∙ ap (λ l. slice_get l ((column - left) / size)) among
        ∙ rest-first left runs i r d lt is ((column - left) / size) which-within

    parts : (column - left) / size * r.columns + (column - left) % size ≡ column - left
    parts = ap (λ n. (column - left) / size * n + (column - left) % size) (sym wide) ∙ div-add-mod' (column - left) size

    pub seen-head : (column - left) % size ≡ 0 → IsSeenAt (runs_entries start runs) column (Head (number + (column - left) / size))
    seen-head none =
        let q = (column - left) / size in
        let most = some in
        (run_entry left r q, here, at-head left column q r.columns ((column - left) % size) parts none low, omega (arith, most, wide))

    pub seen-tail : ((column - left) % size ≡ 0 → ⊥) → IsSeenAt (runs_entries start runs) column (Tail (number + (column - left) / size))
    seen-tail more =
        let q = (column - left) / size in
        let rem = (column - left) % size in
        let below : rem < r.columns = subst (λ n. rem < n) wide (mod_below (column - left) size some) in
        (run_entry left r q, here, behind-head left column q r.columns rem parts more, before-end left column q r.columns rem parts below low)
