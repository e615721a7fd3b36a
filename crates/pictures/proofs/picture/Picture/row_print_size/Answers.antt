-- The row with the number is one of the picture's.
use Rattle.std.proofs.Common.{ℕ, List, [], Option, sym, ap, subst}
use Rattle.std.specs.Option.{option_map_or}
use Rattle.unicode_tables.specs.Tables.{TableValues}
use Rattle.cell_grid.specs.Rows.{DrawnRow}
use Rattle.cell_grid.specs.Print.{row_text, IsSizeOf}
use Rattle.pictures.proofs.Prints.{row-there, slices-there}
use Rattle.pictures.proofs.picture.Picture.row_print_size.Goals as goal

pub row_print_size-requires : goal.row_print_size-requires
row_print_size-requires c =
    let g = c.args.self.now in
    slices-there c.rows.result.now g.rows c.args.number c.index-rows-number.result c.rows.ensures.rows c.requires c.index-rows-number.is c.text.result.now g.text c.text.ensures
    (c.entries_are_slices.ensures g c.rows.ensures.drawn)

pub returns : goal.returns
returns c =
    let g = c.args.self.now in
    let r = c.index-rows-number.result in
    let is = row-there c.rows.result.now g.rows c.args.number r c.rows.ensures.rows c.requires c.index-rows-number.is in
    let by_text = subst (λ (x : List ℕ). IsSizeOf (row_text c.tables.result.now x r) c.row_print_size.result) c.text.ensures c.row_print_size.ensures in
    let by_tables = subst (λ (t : TableValues). IsSizeOf (row_text t g.text r) c.row_print_size.result) c.tables.ensures by_text in
    subst (λ (l : List ℕ). IsSizeOf l c.row_print_size.result) (sym (ap (λ (o : Option DrawnRow). option_map_or (row_text g.tables g.text) o []) is)) by_tables
