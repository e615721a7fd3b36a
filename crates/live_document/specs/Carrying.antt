-- Where a gap of a text stands after a change: the definition IsCarried. A gap is named by how many characters stand left of
-- it.
use Rattle.std.specs.Prelude.{◌≡◌, ◌≤◌, ◌<◌, ℕ, suc, List, take, drop}
use Rattle.bg_types.specs.declared.change.Change.{Change}
use Rattle.bg_types.specs.declared.change.Change.TheVariants.{Put, Cut}
use Rattle.bg_types.specs.Edit.{changed}

-- the change is made left of the gap; what is put at the gap itself comes to stand left of it
abbrev pub IsLeftOf : Change → (gap : ℕ) → Type 0
IsLeftOf (Put place ch) gap = place ≤ gap
IsLeftOf (Cut place) gap = place < gap

abbrev pub IsRightOf : Change → (gap : ℕ) → Type 0
IsRightOf (Put place ch) gap = gap < place
IsRightOf (Cut place) gap = gap ≤ place

-- the gap goes one further where a character is put left of it, one back where one is cut there, and else stays
pub record IsCarried (change : Change) (gap after : ℕ) : Type 0 where
  pub put : (place ch : ℕ) → change ≡ Put place ch → place ≤ gap → after ≡ suc gap
  pub cut : (place : ℕ) → change ≡ Cut place → place < gap → suc after ≡ gap
  pub stays : IsRightOf change gap → after ≡ gap

-- what stands on the other side of the gap is what stood there
pub record KeepsItsSide (text : List ℕ) (change : Change) (gap after : ℕ) : Type 0 where
  pub right : IsLeftOf change gap → drop after (changed text change) ≡ drop gap text
  pub left : IsRightOf change gap → take after (changed text change) ≡ take gap text
