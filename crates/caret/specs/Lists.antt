-- Elements of a list by their numbers, from 0.
use Rattle.std.specs.Prelude.{ℕ, zero, suc, List, Option, None, slice_get}
pub use Rattle.cell_grid.specs.Windows.{last_below}

-- the element before element n, if there is one
abbrev pub element_before : {A : Type 0} → List A → ℕ → Option A
element_before xs zero = None
element_before xs (suc n) = slice_get xs n
