-- Blanks, the entries, blanks, and LF.
use Rattle.std.proofs.Common.{◌≡◌, ℕ, List, [], ◌∷◌, ◌++◌, Option, replicate, flat_map, encode_utf8, sym, ap, subst, ◌∙◌, arith, append-nil}
use Rattle.std.proofs.KnownBytes.{Appends-nil}
use Rattle.std.proofs.lemmas.Str.{encode_ascii}
use Rattle.unicode_tables.specs.Tables.{TableValues}
use Rattle.cell_grid.specs.declared.cluster_run.ClusterRun.{ClusterRun}
use Rattle.cell_grid.specs.declared.cell.Cell.{Cell}
use Rattle.cell_grid.specs.declared.cell.Cell.TheVariants.{Blank}
use Rattle.cell_grid.specs.Cells.{entries_cells}
use Rattle.cell_grid.specs.Held.{AppendsAllBut}
use Rattle.cell_grid.specs.Rows.{DrawnRow}
use Rattle.cell_grid.specs.Print.{own_text, run_text, cell_text, row_text}
use Rattle.cell_grid.specs.Runs.{runs_entries}
use Rattle.cell_grid.proofs.HeldEnd.{but-end, but-cut_end, but-through, but-cut_through}
use Rattle.cell_grid.proofs.Printing.{row-text}
use Rattle.cell_grid.proofs.RunPrinting.{printable-runs, runs-text}
use Rattle.cell_grid.proofs.Writing.{on_err, on_err_by, on_ok_by}
use Rattle.cell_grid.proofs.printed.print_row.Goals as goal

-- a row whose cells are blanks, its entries and blanks
module _ (tables : TableValues) (text : List ℕ) (r : DrawnRow) (left right : ℕ) (is : r.cells ≡ replicate left Blank ++ (entries_cells 0 r.entries ++ replicate right Blank)) where
  abbrev row : List ℕ
  row = row_text tables text r

  -- what it prints from the LF on, from the blanks on the right, and from the entries
  abbrev from_end : List ℕ
  from_end = encode_utf8 10 ++ []

  abbrev from_right : List ℕ
  from_right = replicate right 32 ++ from_end

  abbrev from_entries : List ClusterRun → List ℕ
  from_entries runs = flat_map (run_text tables text) runs ++ from_right

  whole : (runs : List ClusterRun) → (start : ℕ) × (runs_entries start runs ≡ r.entries) → row ≡ replicate left 32 ++ from_entries runs
  whole runs own =
      let same = sym (ap (flat_map (own_text tables text)) own.1) ∙ runs-text tables text own.0 runs in
      ap (λ (cs : List Cell). flat_map (cell_text tables text r.entries) cs ++ 10 ∷ []) is ∙ row-text tables text r.entries left right
      ∙ ap (λ t. replicate left 32 ++ (t ++ (replicate right 32 ++ 10 ∷ []))) same
      ∙ ap (λ t. replicate left 32 ++ (flat_map (run_text tables text) runs ++ (replicate right 32 ++ t))) (sym (append-nil (encode_utf8 10) ∙ encode_ascii 10 (omega arith)))

  module _ (runs : List ClusterRun) (own : (start : ℕ) × (runs_entries start runs ≡ r.entries)) (first : Option (List ℕ)) (held : List ℕ) (none : held ≡ []) where
    at_left : AppendsAllBut first first row (held ++ (replicate left 32 ++ from_entries runs))
    at_left = record { written = []; appends = Appends-nil first; whole = whole runs own ∙ ap (λ t. t ++ (replicate left 32 ++ from_entries runs)) (sym none) }

    module _ (second : Option (List ℕ)) (held2 : List ℕ) (blanks : AppendsAllBut first second (held ++ replicate left 32) held2) where
      at_entries : AppendsAllBut first second row (held2 ++ from_entries runs)
      at_entries = but-through first first second row held (replicate left 32) (from_entries runs) held2 at_left blanks

      module _ (third : Option (List ℕ)) (held3 : List ℕ) (entries : AppendsAllBut second third (held2 ++ flat_map (run_text tables text) runs) held3) where
        at_right : AppendsAllBut first third row (held3 ++ from_right)
        at_right = but-through first second third row held2 (flat_map (run_text tables text) runs) from_right held3 at_entries entries

        module _ (fourth : Option (List ℕ)) (held4 : List ℕ) (spaces : AppendsAllBut third fourth (held3 ++ replicate right 32) held4) where
          at_end : AppendsAllBut first fourth row (held4 ++ from_end)
          at_end = but-through first third fourth row held3 (replicate right 32) from_end held4 at_right spaces

          module _ (fifth : Option (List ℕ)) (held5 : List ℕ) (lf : AppendsAllBut fourth fifth (held4 ++ encode_utf8 10) held5) where
            after : AppendsAllBut first fifth row held5
            after = subst (AppendsAllBut first fifth row) (append-nil held5) (but-through first fourth fifth row held4 (encode_utf8 10) [] held5 at_end lf)

pub hold_runs-requires-clause-runs : goal.hold_runs-requires-clause-runs
hold_runs-requires-clause-runs g c =
    let from = c.runs-runs.ensures.entries in
    printable-runs c.args.text.now from.0 c.runs-runs.result.now c.args.row.now.entries from.1 c.requires.entries c.runs-runs.ensures.reach c.runs-runs.ensures.columns

pub returns-in_err-hold_spaces-clause-err : goal.returns-in_err-hold_spaces-clause-err
returns-in_err-hold_spaces-clause-err g c =
    let left = c.blanks-left.result.0 in
    let right = c.blanks-left.result.1 in
    let start = at_left c.args.tables.now c.args.text.now c.args.row.now left right c.blanks-left.ensures c.runs-runs.result.now c.runs-runs.ensures.entries (g.W.Sink.written c.args.sink.now) c.new-held.result.bytes c.new-held.ensures in
    on_err c.from_residual.result (but-cut_through _ _ _ _ c.new-held.result.bytes (replicate left 32) _ start c.in_err-hold_spaces.ensures.err)

pub returns-in_err-hold_runs-clause-err : goal.returns-in_err-hold_runs-clause-err
returns-in_err-hold_runs-clause-err g c =
    let tables = c.args.tables.now in
    let text = c.args.text.now in
    let start =
    at_entries tables text c.args.row.now c.blanks-left.result.0 c.blanks-left.result.1 c.blanks-left.ensures c.runs-runs.result.now c.runs-runs.ensures.entries (g.W.Sink.written c.args.sink.now) c.new-held.result.bytes c.new-held.ensures
    _ _ c.in_ok-hold_spaces.ensures.ok in
    on_err c.from_residual-in_err-hold_runs.result (but-cut_through _ _ _ _ c.hold_spaces.new.held.bytes (flat_map (run_text tables text) c.runs-runs.result.now) _ start c.in_err-hold_runs.ensures.err)

pub returns-in_err-hold_spaces-2-clause-err : goal.returns-in_err-hold_spaces-2-clause-err
returns-in_err-hold_spaces-2-clause-err g c =
    let right = c.blanks-left.result.1 in
    let start =
    at_right c.args.tables.now c.args.text.now c.args.row.now c.blanks-left.result.0 right c.blanks-left.ensures c.runs-runs.result.now c.runs-runs.ensures.entries (g.W.Sink.written c.args.sink.now) c.new-held.result.bytes c.new-held.ensures
    _ _ c.in_ok-hold_spaces.ensures.ok _ _ c.in_ok-hold_runs.ensures.ok in
    on_err c.from_residual-in_err-hold_spaces-2.result (but-cut_through _ _ _ _ c.hold_runs.new.held.bytes (replicate right 32) _ start c.in_err-hold_spaces-2.ensures.err)

pub returns-in_err-hold_char-clause-err : goal.returns-in_err-hold_char-clause-err
returns-in_err-hold_char-clause-err g c =
    let start =
    at_end c.args.tables.now c.args.text.now c.args.row.now c.blanks-left.result.0 c.blanks-left.result.1 c.blanks-left.ensures c.runs-runs.result.now c.runs-runs.ensures.entries (g.W.Sink.written c.args.sink.now) c.new-held.result.bytes c.new-held.ensures
    _ _ c.in_ok-hold_spaces.ensures.ok _ _ c.in_ok-hold_runs.ensures.ok _ _ c.in_ok-hold_spaces-2.ensures.ok in
    on_err c.from_residual-in_err-hold_char.result (but-cut_through _ _ _ _ c.hold_spaces-2.new.held.bytes (encode_utf8 10) [] start c.in_err-hold_char.ensures.err)

pub returns-clause-ok : goal.returns-clause-ok
returns-clause-ok g c =
    let done =
    after c.args.tables.now c.args.text.now c.args.row.now c.blanks-left.result.0 c.blanks-left.result.1 c.blanks-left.ensures c.runs-runs.result.now c.runs-runs.ensures.entries (g.W.Sink.written c.args.sink.now) c.new-held.result.bytes c.new-held.ensures
    _ _ c.in_ok-hold_spaces.ensures.ok _ _ c.in_ok-hold_runs.ensures.ok _ _ c.in_ok-hold_spaces-2.ensures.ok _ _ c.in_ok-hold_char.ensures.ok in
    on_ok_by c.let_go.result (λ end. but-end _ _ _ _ _ done end) c.let_go.ensures.ok

pub returns-clause-err : goal.returns-clause-err
returns-clause-err g c =
    let done =
    after c.args.tables.now c.args.text.now c.args.row.now c.blanks-left.result.0 c.blanks-left.result.1 c.blanks-left.ensures c.runs-runs.result.now c.runs-runs.ensures.entries (g.W.Sink.written c.args.sink.now) c.new-held.result.bytes c.new-held.ensures
    _ _ c.in_ok-hold_spaces.ensures.ok _ _ c.in_ok-hold_runs.ensures.ok _ _ c.in_ok-hold_spaces-2.ensures.ok _ _ c.in_ok-hold_char.ensures.ok in
    on_err_by c.let_go.result (λ end. but-cut_end _ _ _ _ _ done end) c.let_go.ensures.err
