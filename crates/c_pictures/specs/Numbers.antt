-- What the structs of C have of a picture's.
use Rattle.std.specs.Prelude.{length}
use Rattle.cell_grid.specs.declared.entry.Entry.{Entry}
use Rattle.cell_grid.specs.Rows.{DrawnRow}
use Rattle.caret.specs.declared.caret.Caret.{Caret}
use Rattle.caret.specs.Gaps.{gap_column}
use Rattle.c_pictures.specs.declared.numbers.RowNumbers.{RowNumbers}
use Rattle.c_pictures.specs.declared.numbers.EntryNumbers.{EntryNumbers}
use Rattle.c_pictures.specs.declared.numbers.CaretNumbers.{CaretNumbers}

-- the column is where the entries begin, that of gap 0
abbrev pub row_numbers : DrawnRow → RowNumbers
row_numbers r = record {
  first_place = r.first_place;
  last_place = r.last_place;
  entries = length r.entries;
  column = gap_column r 0;
  level = r.para_level;
}

abbrev pub entry_numbers : Entry → EntryNumbers
entry_numbers e = record {
  first_byte = e.span.first_byte;
  end_byte = e.span.end_byte;
  first_place = e.span.first_place;
  end_place = e.span.end_place;
  column = e.column;
  level = e.level;
  columns = e.columns;
}

abbrev pub caret_numbers : Caret → CaretNumbers
caret_numbers c = record { row = c.row; gap = c.gap; place = c.place }

abbrev pub caret_of : CaretNumbers → Caret
caret_of c = record { row = c.row; gap = c.gap; place = c.place }

-- where there is nothing to write, all numbers are 0
abbrev pub no_row : RowNumbers
no_row = record { first_place = 0; last_place = 0; entries = 0; column = 0; level = 0 }

abbrev pub no_entry : EntryNumbers
no_entry = record { first_byte = 0; end_byte = 0; first_place = 0; end_place = 0; column = 0; level = 0; columns = 0 }

abbrev pub no_caret : CaretNumbers
no_caret = record { row = 0; gap = 0; place = 0 }
