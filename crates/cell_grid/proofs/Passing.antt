-- The entries that are left of runs, one passed after the other.
use Rattle.std.proofs.Common.{◌≡◌, ℕ, ◌+◌, ◌^◌, ◌<◌, ◌≤◌, ◌==◌, false, List, [], ◌∷◌, length, drop, get_or, sym, ap, subst, ◌∙◌, arith}
use Rattle.std.proofs.lemmas.List.Elements.{All-drop}
use Rattle.std.specs.List.{All}
use Rattle.cell_grid.specs.declared.cluster_run.ClusterRun.{ClusterRun}
use Rattle.cell_grid.specs.declared.entry.Entry.{Entry}
use Rattle.cell_grid.specs.Runs.{cluster_count, run_entry, run_columns, runs_columns, runs_entries, IsInReach, AreLeft}
use Rattle.cell_grid.proofs.Celled.{drop-get}
use Rattle.cell_grid.proofs.RunEntries.{rest-first, rest-drop, rest-columns, first_further-is}

pub some-runs : (runs : List ClusterRun) → false ≡ (length runs == 0) → 0 < length runs
some-runs [] h = cc
some-runs (r ∷ later) h = omega arith

-- none is left
pub none-left : (column passed : ℕ) (runs : List ClusterRun) → length runs ≡ 0 → AreLeft column passed runs → drop passed (runs_entries column runs) ≡ []
none-left column passed [] none h = let no = h.within in let e : passed ≡ 0 = omega arith in ap (λ k. drop k (runs_entries column [])) e
none-left column passed (r ∷ later) none h = absurd (omega arith)

module _ (column passed : ℕ) (runs : List ClusterRun) (r d : ClusterRun) (some : 0 < length runs) (is : r ≡ get_or runs 0 d) (h : AreLeft column passed runs) where
  pub passed-within : passed ≤ r.span.further
  passed-within = let e = first_further-is runs r d some is in let le = h.within in omega arith

  pub fits-first : column + run_columns r < 2 ^ 16
  fits-first = let all = rest-columns column runs 0 r d some is in let fits = h.fits in omega arith

  next-left : drop passed (runs_entries column runs) ≡ run_entry column r passed ∷ drop (passed + 1) (runs_entries column runs)
  next-left = let le = passed-within in drop-get (runs_entries column runs) passed (run_entry column r passed) (rest-first column runs 0 r d some is passed (omega arith))

  -- one more of the first run is passed
  module _ (within : passed < r.span.further) where
    pub stays-left : AreLeft column (passed + 1) runs
    stays-left = let e = first_further-is runs r d some is in record { reach = h.reach; fits = h.fits; within = omega arith }

    pub one-passed : (e : Entry) → e ≡ run_entry column r passed → drop passed (runs_entries column runs) ≡ e ∷ drop (passed + 1) (runs_entries column runs)
    one-passed e this = next-left ∙ ap (λ x. x ∷ drop (passed + 1) (runs_entries column runs)) (sym this)

  -- the first run is passed
  module _ (last : r.span.further ≤ passed) where
    pub next-run : (next : ℕ) (later : List ClusterRun) → next ≡ column + run_columns r → later ≡ drop 1 runs → AreLeft next 0 later
    next-run next later at others =
        let all = rest-columns column runs 0 r d some is in
        let fits = h.fits in
        let same = ap runs_columns others in
        record { reach = subst (All IsInReach) (sym others) (All-drop IsInReach 1 runs h.reach); fits = omega arith; within = omega arith }

    pub run-passed : (e : Entry) (next : ℕ) (later : List ClusterRun) → e ≡ run_entry column r passed → next ≡ column + run_columns r → later ≡ drop 1 runs
        → drop passed (runs_entries column runs) ≡ e ∷ runs_entries next later
    run-passed e next later this at others =
        let le = passed-within in
        let count : passed + 1 ≡ cluster_count r = omega arith in
        next-left
        ∙ ap (λ x. x ∷ drop (passed + 1) (runs_entries column runs)) (sym this)
        ∙ ap (λ l. e ∷ l)
        (ap (λ k. drop k (runs_entries column runs)) count ∙ rest-drop column runs 0 r d some is
        ∙ ap (λ n. runs_entries n (drop 1 runs)) (sym at) ∙ ap (runs_entries next) (sym others))
