-- What is seen in a cell stands in the text.
use Rattle.std.proofs.Common.{◌≡◌, ℕ, zero, suc, ◌<◌, ◌≤◌, List, [], ◌∷◌, slice_get, Option, Some, None, subst, arith}
use Rattle.std.specs.List.{All}
use Rattle.std.specs.Prelude.{option_and_then}
use Rattle.cell_grid.proofs.Interface.{all_at}
use Rattle.cell_grid.specs.declared.entry.Entry.{Entry}
use Rattle.cell_grid.specs.Rows.{DrawnRow}
use Rattle.cell_grid.specs.Laws.{RowsFollow, IsWithin, HoldsPlacesOnce}
use Rattle.calling.specs.Mouse.{entry_number, entry_under}

-- the rows end where the text ends, or earlier
from-to : (from to : ℕ) (rows : List DrawnRow) → RowsFollow from rows to → from ≤ to
from-to from to [] follow = omega (arith, follow)
from-to from to (r ∷ later) follow = let rest : r.last_place ≤ to = from-to r.last_place to later follow.2 in omega (arith, follow.0, follow.1)

last_place-to : (from to : ℕ) (rows : List DrawnRow) (k : ℕ) (row : DrawnRow) → RowsFollow from rows to → slice_get rows k ≡ Some row → row.last_place ≤ to
last_place-to from to [] k row follow is = cc
last_place-to from to (r ∷ later) zero row follow is =
    let e : r ≡ row = cc in
    subst (λ (x : DrawnRow). x.last_place ≤ to) e (from-to r.last_place to later follow.2)
last_place-to from to (r ∷ later) (suc k) row follow is = last_place-to r.last_place to later k row follow.2 is

-- an entry that is seen is one of the row's
numbered : (row : DrawnRow) (number : Option ℕ) (entry : Entry) → option_and_then (slice_get row.entries) number ≡ Some entry → (n : ℕ) × (slice_get row.entries n ≡ Some entry)
numbered row None entry is = cc
numbered row (Some n) entry is = (n, is)

-- the cluster that is seen begins before the text's end
pub seen-within : (to number column : ℕ) (rows : List DrawnRow) (row : DrawnRow) (entry : Entry) → RowsFollow 0 rows to → All HoldsPlacesOnce rows
    → slice_get rows number ≡ Some row → entry_under row column ≡ Some entry → entry.span.first_place < to
seen-within to number column rows row entry follow once row_is entry_is =
    let found = numbered row (option_and_then entry_number (slice_get row.cells column)) entry entry_is in
    let holds : HoldsPlacesOnce row = all_at HoldsPlacesOnce rows number row once row_is in
    let within : IsWithin row entry = all_at (IsWithin row) row.entries found.0 entry holds.within found.1 in
    let end : row.last_place ≤ to = last_place-to 0 to rows number row follow row_is in
    omega (arith, within.some, within.to, end)
