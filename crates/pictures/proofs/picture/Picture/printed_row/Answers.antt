-- The row with the number is one of the picture's.
use Rattle.pictures.proofs.Prints.{slices-there}
use Rattle.pictures.proofs.picture.Picture.printed_row.Goals as goal

pub print_row-requires-clause-entries : goal.print_row-requires-clause-entries
print_row-requires-clause-entries c =
    let g = c.args.self.now in
    slices-there c.rows.result.now g.rows c.args.number c.index-rows-number.result c.rows.ensures.rows c.requires c.index-rows-number.is c.text.result.now g.text c.text.ensures
    (c.entries_are_slices.ensures g c.rows.ensures.drawn)
