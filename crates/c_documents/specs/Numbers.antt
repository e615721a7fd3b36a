-- What the structs of C have of a document's.
use Rattle.std.specs.Prelude.{length}
use Rattle.bg_types.specs.declared.change.Change.{Change}
use Rattle.bg_types.specs.declared.change.Change.TheVariants.{Put, Cut}
use Rattle.cell_grid.specs.Windows.{DrawnWindow}
use Rattle.caret.specs.declared.position.Position.{Position}
use Rattle.c_documents.specs.declared.numbers.PositionNumbers.{PositionNumbers}
use Rattle.c_documents.specs.declared.numbers.ChangeNumbers.{ChangeNumbers}
use Rattle.c_documents.specs.declared.numbers.WindowNumbers.{WindowNumbers}

abbrev pub position_numbers : Position → PositionNumbers
position_numbers p = record { row = p.row; gap = p.gap; place = p.place }

abbrev pub position_with : PositionNumbers → Position
position_with p = record { row = p.row; gap = p.gap; place = p.place }

abbrev pub no_position : PositionNumbers
no_position = record { row = 0; gap = 0; place = 0 }

abbrev pub change_numbers : Change → ChangeNumbers
change_numbers (Put place ch) = record { place = place; character = ch; put = 1 }
change_numbers (Cut place) = record { place = place; character = 0; put = 0 }

abbrev pub window_numbers : DrawnWindow → WindowNumbers
window_numbers w = record { rows = length w.rows; number = w.number }

abbrev pub nothing_shown : WindowNumbers
nothing_shown = record { rows = 0; number = 0 }
