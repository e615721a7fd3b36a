-- A row has as many sizes as entries.
use Rattle.std.proofs.Common.{◌≡◌, ℕ, Option, Some, [], length, ap, ◌∙◌}
use Rattle.std.proofs.lemmas.List.{length-map}
use Rattle.std.specs.Option.{option_map_or}
use Rattle.std.specs.Prelude.{slice_get}
use Rattle.cell_grid.specs.declared.entry.Entry.{Entry}
use Rattle.cell_grid.specs.Grids.{DrawnGrid}
use Rattle.cell_grid.specs.Print.{own_sizes, own_text, printed_sizes}
use Rattle.cell_grid.specs.Rows.{DrawnRow}

pub sizes_counted : (g : DrawnGrid) (n : ℕ) (r : DrawnRow) → slice_get g.rows n ≡ Some r → length (printed_sizes g n) ≡ length r.entries
sizes_counted g n r is =
    ap (λ (o : Option DrawnRow). length (option_map_or (own_sizes g.tables g.text) o [])) is
    ∙ length-map r.entries (λ (e : Entry). length (own_text g.tables g.text e))
