-- The row of a place, and a window of rows round it.
use Rattle.std.specs.Prelude.{◌≡◌, ℕ, zero, suc, ◌+◌, ◌-◌, ◌<◌, ◌≤◌, ◌⊎◌, min, Bool, true, false, nat_le, List, [], ◌∷◌, length, slice_get, slice_range, if◌then◌else◌}
use Rattle.std.specs.List.{All}
use Rattle.std.specs.Option.{option_map_or}
use Rattle.cell_grid.specs.Rows.{DrawnRow}

-- the last number below n that passes, else 0
abbrev pub last_below : (ℕ → Bool) → ℕ → ℕ
last_below passes zero = 0
last_below passes (suc n) = if passes n then n else last_below passes n

-- the first place of the row with this number is at most p
abbrev pub begins_by : List DrawnRow → ℕ → ℕ → Bool
begins_by rows p number = option_map_or (λ (row : DrawnRow). nat_le row.first_place p) (slice_get rows number) false

-- the row of place p: the last row whose first place is at most p
abbrev pub row_at : List DrawnRow → ℕ → ℕ
row_at rows p = last_below (begins_by rows p) (length rows)

-- a window: its rows, and which of them is the row that it was asked for
pub record DrawnWindow : Type 0 where
  pub rows : List DrawnRow
  pub number : ℕ

-- the rows from so many above the row of a place, or from the first, to so many below it, or to the last
abbrev pub window_of : (above below place : ℕ) → List DrawnRow → DrawnWindow
window_of above below place rows =
    let number = row_at rows place in
    record {
      rows = slice_range rows (number - above) (min (length rows) (number + below + 1));
      number = number - (number - above);
    }

-- each row but the last begins before the next one
abbrev pub FirstPlacesRise : List DrawnRow → Type 0
FirstPlacesRise [] = Unit {0}
FirstPlacesRise (r ∷ []) = Unit {0}
FirstPlacesRise (r ∷ s ∷ later) = (r.first_place < s.first_place) × FirstPlacesRise (s ∷ later)

-- a part of the rows, with those before and after it, has the window round the row of a place
pub record HasWindow (before rows after : List DrawnRow) (above below place : ℕ) : Type 0 where
  -- the row of the place is in it
  pub begun : begins_by rows place 0 ≡ true
  pub past : All (λ (r : DrawnRow). place < r.first_place) after
  -- so many rows of it stand above that one, or nothing stands before it
  pub up : (above ≤ row_at rows place) ⊎ (before ≡ [])
  -- so many stand below, or nothing stands after it
  pub down : (row_at rows place + below + 1 ≤ length rows) ⊎ (after ≡ [])
