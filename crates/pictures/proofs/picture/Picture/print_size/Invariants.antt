-- The size so far is that of the rows that were gone over.
use Rattle.std.proofs.Common.{◌≡◌, length, take}
use Rattle.std.specs.List.{flat_map}
use Rattle.cell_grid.specs.Print.{row_text}
use Rattle.pictures.proofs.picture.Picture.print_size.Given as goal

abbrev pub invariant-loop-number : goal.invariant-loop-number
invariant-loop-number l = l.size ≡ length (flat_map (row_text l.self.tables l.self.text) (take l.number l.self.rows))
