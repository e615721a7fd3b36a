-- The entries of its rows are slices of its text.
use Rattle.std.proofs.Common.{List, ℕ, sym, subst}
use Rattle.std.specs.List.{All}
use Rattle.cell_grid.specs.Printable.{AreSlices}
use Rattle.pictures.proofs.picture.Picture.printed.Goals as goal

pub print_rows-requires-clause-entries : goal.print_rows-requires-clause-entries
print_rows-requires-clause-entries c =
    let g = c.args.self.now in
    subst (λ (text : List ℕ). All (AreSlices text) c.rows.result.now) (sym c.text.ensures)
    (subst (All (AreSlices g.text)) (sym c.rows.ensures.rows) (c.entries_are_slices.ensures g c.rows.ensures.drawn))
