-- What an edit changes in a text.
use Rattle.std.specs.Prelude.{ℕ, List, ◌-◌, ◌++◌}
use Rattle.bg_types.specs.declared.change.Change.{Change}
use Rattle.text_buffer.specs.Edits.{cuts_at, puts_at}

-- the characters from one place up to another are cut, one after the other, and these are put where they began
abbrev pub edit_changes : (from to : ℕ) → (typed : List ℕ) → List Change
edit_changes from to typed = cuts_at from (to - from) ++ puts_at from typed
