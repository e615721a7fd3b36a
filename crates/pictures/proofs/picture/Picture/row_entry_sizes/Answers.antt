-- The row with the number is one of the picture's.
use Rattle.std.proofs.Common.{◌≡◌, ◌++◌, ℕ, List, [], drop, length, Option, sym, ap, subst, arith}
use Rattle.std.proofs.lemmas.List.{length-map}
use Rattle.std.specs.Option.{option_map_or}
use Rattle.unicode_tables.specs.Tables.{TableValues}
use Rattle.cell_grid.specs.declared.entry.Entry.{Entry}
use Rattle.cell_grid.specs.Rows.{DrawnRow}
use Rattle.cell_grid.specs.Print.{own_sizes, own_text}
use Rattle.pictures.proofs.Prints.{row-there, slices-there}
use Rattle.pictures.proofs.picture.Picture.row_entry_sizes.Goals as goal

pub row_entry_sizes-requires-clause-entries : goal.row_entry_sizes-requires-clause-entries
row_entry_sizes-requires-clause-entries c =
    let g = c.args.self.now in
    slices-there c.rows.result.now g.rows c.args.number c.index-rows-number.result c.rows.ensures.rows c.requires.row c.index-rows-number.is c.text.result.now g.text c.text.ensures
    (c.entries_are_slices.ensures g c.rows.ensures.drawn)

pub row_entry_sizes-requires-clause-room : goal.row_entry_sizes-requires-clause-room
row_entry_sizes-requires-clause-room c =
    let g = c.args.self.now in
    let r = c.index-rows-number.result in
    let is = row-there c.rows.result.now g.rows c.args.number r c.rows.ensures.rows c.requires.row c.index-rows-number.is in
    let own = ap (λ (o : Option DrawnRow). length (option_map_or (own_sizes g.tables g.text) o [])) is in
    omega (arith, c.requires.room, own, length-map r.entries (λ (e : Entry). length (own_text g.tables g.text e)))

pub returns : goal.returns
returns c =
    let g = c.args.self.now in
    let r = c.index-rows-number.result in
    let old = c.args.sizes.now in
    let new = c.row_entry_sizes.new.sizes in
    let is = row-there c.rows.result.now g.rows c.args.number r c.rows.ensures.rows c.requires.row c.index-rows-number.is in
    let by_text = subst (λ (x : List ℕ). new ≡ own_sizes c.tables.result.now x r ++ drop (length r.entries) old) c.text.ensures c.row_entry_sizes.ensures in
    let by_tables = subst (λ (t : TableValues). new ≡ own_sizes t g.text r ++ drop (length r.entries) old) c.tables.ensures by_text in
    let by_count = subst (λ n. new ≡ own_sizes g.tables g.text r ++ drop n old) (sym (length-map r.entries (λ (e : Entry). length (own_text g.tables g.text e)))) by_tables in
    subst (λ (l : List ℕ). new ≡ l ++ drop (length l) old) (sym (ap (λ (o : Option DrawnRow). option_map_or (own_sizes g.tables g.text) o []) is)) by_count
