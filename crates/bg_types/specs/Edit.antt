-- What changes make of a text: the definition IsEdit.
use Rattle.std.specs.Prelude.{◌≡◌, ◌≤◌, ◌<◌, ℕ, List, [], ◌∷◌, length, insert, remove}
use Rattle.bg_types.specs.declared.change.Change.{Change}
use Rattle.bg_types.specs.declared.change.Change.TheVariants.{Put, Cut}

-- the place is one of the text's: a character is put before one of them or at the end, and one of them is cut
abbrev pub IsInRange : List ℕ → Change → Type 0
IsInRange text (Put place ch) = place ≤ length text
IsInRange text (Cut place) = place < length text

-- the text after a change
abbrev pub changed : List ℕ → Change → List ℕ
changed text (Put place ch) = insert text place ch
changed text (Cut place) = remove text place

-- the changes, one after the other, lead from the old text to the new one; each place is in range when its turn comes
abbrev pub IsEdit : List ℕ → List Change → List ℕ → Type 0
IsEdit old [] new = new ≡ old
IsEdit old (change ∷ changes) new = IsInRange old change × IsEdit (changed old change) changes new
