-- The rows of the grid, in its text.
use Rattle.std.proofs.Common.{List, ℕ, OnOk, OnErr, flat_map, sym, subst}
use Rattle.std.specs.List.{All}
use Rattle.std.specs.Io.KnownBytes.{Appends}
use Rattle.bg_types.specs.Sink.{AppendsBeginning}
use Rattle.unicode_tables.specs.Tables.{TableValues}
use Rattle.cell_grid.specs.Rows.{DrawnRow}
use Rattle.cell_grid.specs.Print.{row_text}
use Rattle.cell_grid.specs.Printable.{AreSlices}
use Rattle.cell_grid.proofs.Drawn.{slices-rows}
use Rattle.cell_grid.proofs.printed.print.Goals as goal

pub print_rows-requires-clause-entries : goal.print_rows-requires-clause-entries
print_rows-requires-clause-entries g c =
    let grid = c.args.grid.now in
    subst (λ (text : List ℕ). All (AreSlices text) c.rows.result.now) (sym c.text.ensures)
    (subst (All (AreSlices grid.text)) (sym c.rows.ensures.rows) (slices-rows c.laws_below.ensures grid c.rows.ensures.drawn))

pub returns-clause-ok : goal.returns-clause-ok
returns-clause-ok g c =
    let grid = c.args.grid.now in
    let old = g.W.Sink.written c.args.sink.now in
    let new = g.W.Sink.written c.print_rows.new.sink in
    let wrote = λ (tables : TableValues) (text : List ℕ) (rows : List DrawnRow). OnOk c.print_rows.result (Appends old new (flat_map (row_text tables text) rows)) in
    subst (λ tables. wrote tables grid.text grid.rows) c.tables.ensures
    (subst (λ text. wrote c.tables.result.now text grid.rows) c.text.ensures
    (subst (λ rows. wrote c.tables.result.now c.text.result.now rows) c.rows.ensures.rows c.print_rows.ensures.ok))

pub returns-clause-err : goal.returns-clause-err
returns-clause-err g c =
    let grid = c.args.grid.now in
    let old = g.W.Sink.written c.args.sink.now in
    let new = g.W.Sink.written c.print_rows.new.sink in
    let wrote = λ (tables : TableValues) (text : List ℕ) (rows : List DrawnRow). OnErr c.print_rows.result (AppendsBeginning old new (flat_map (row_text tables text) rows)) in
    subst (λ tables. wrote tables grid.text grid.rows) c.tables.ensures
    (subst (λ text. wrote c.tables.result.now text grid.rows) c.text.ensures
    (subst (λ rows. wrote c.tables.result.now c.text.result.now rows) c.rows.ensures.rows c.print_rows.ensures.err))
