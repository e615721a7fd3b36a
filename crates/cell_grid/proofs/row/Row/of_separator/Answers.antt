-- One entry of no columns, where the row begins.
use Rattle.std.proofs.Common.{◌≡◌, ◌≤◌, ◌+◌, ℕ, List, [], ◌∷◌, length, sym, ap, subst, ◌∙◌, arith, append-nil}
use Rattle.std.proofs.lemmas.List.Elements.{All-nil, All-cons, All-same}
use Rattle.cell_grid.specs.declared.cluster_run.ClusterRun.{ClusterRun}
use Rattle.cell_grid.specs.declared.entry.Entry.{Entry}
use Rattle.cell_grid.specs.Cells.{StandWithin}
use Rattle.cell_grid.specs.Rows.{entries_from, start_column}
use Rattle.cell_grid.specs.Runs.{runs_entries, IsInReach, AreKept}
use Rattle.cell_grid.proofs.Celled.{row_by}
use Rattle.cell_grid.proofs.Separating.{visual-one}
use Rattle.cell_grid.proofs.Sides.{start-fits}
use Rattle.cell_grid.proofs.Standing.{span_of}
use Rattle.cell_grid.proofs.row.Row.of_separator.Goals as goal

-- the runs are one, of one entry
one-run : (column : ℕ) (runs : List ClusterRun) (r : ClusterRun) (e : Entry) → runs ≡ r ∷ [] → runs_entries column (r ∷ []) ≡ e ∷ [] → runs_entries column runs ≡ e ∷ []
one-run column runs r e is own = ap (runs_entries column) is ∙ own

kept-one : (width start : ℕ) (runs : List ClusterRun) (r : ClusterRun) (e : Entry) → runs ≡ r ∷ [] → IsInReach r → runs_entries start runs ≡ e ∷ [] → e.column ≡ start → e.columns ≡ 0 → start ≤ width → width ≤ 500 → AreKept width start 1 runs
kept-one width start runs r e is reach own at none fits wide =
    let count = ap length own in
    let end : e.column + e.columns ≡ start + (0 + e.columns) = omega arith in
    let stand : StandWithin width start (e ∷ []) = record { follow = (at, end); fits = omega arith; count = omega arith } in
    record {
      wide = omega (arith, wide);
      stand = subst (StandWithin width start) (sym own) stand;
      reach = All-same IsInReach runs (r ∷ []) is (All-cons IsInReach r [] reach (All-nil IsInReach));
      counted = omega arith;
    }

pub of-run-requires : goal.of-run-requires
of-run-requires c = record { bytes = omega arith; places = omega arith; end_byte = omega (arith, c.requires.few); end_place = omega arith }

pub invariant_of-result : goal.invariant_of-result
invariant_of-result c =
    let start = c.start_column-start.result in
    let e : Entry = record { span = span_of 0 c.args.bytes 0 1; level = c.args.para_level; column = start; columns = 0 } in
    let own = one-run start c.in_ok-from_slice.field-0.items c.of-run.result e c.in_ok-from_slice.ensures.items (append-nil _ ∙ c.of-run.ensures.entries) in
    let fits = start-fits c.args.width c.args.para_level (0 ∷ []) (omega arith) in
    let at = c.start_column-start.ensures (0 ∷ []) (omega arith) in
    kept-one c.args.width start c.in_ok-from_slice.field-0.items c.of-run.result e c.in_ok-from_slice.ensures.items c.of-run.ensures.reach own (omega arith) (omega arith) (omega arith) c.requires.width

pub returns : goal.returns
returns c =
    let width = c.args.width in
    let level = c.args.para_level in
    let span = span_of 0 c.args.bytes 0 1 in
    let start = start_column width level (0 ∷ []) in
    let entry : ℕ → Entry = λ column. record { span = span; level = level; column = column; columns = 0 } in
    let here = c.start_column-start.result in
    ap (row_by width here 0 1 level) (one-run here c.in_ok-from_slice.field-0.items c.of-run.result (entry here) c.in_ok-from_slice.ensures.items (append-nil _ ∙ c.of-run.ensures.entries))
    ∙ ap (λ n. row_by width n 0 1 level (entry n ∷ [])) (c.start_column-start.ensures (0 ∷ []) (omega arith))
    ∙ sym (ap (λ order. row_by width start 0 1 level (entries_from (span ∷ []) (level ∷ []) (0 ∷ []) start order)) (visual-one level))
