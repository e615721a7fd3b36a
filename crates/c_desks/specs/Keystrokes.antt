-- Changes of one character.
use Rattle.std.specs.Prelude.{◌≡◌, ℕ, List, [], ◌∷◌}
use Rattle.c_desks.specs.declared.keystroke.Keystroke.{Keystroke}
use Rattle.c_desks.specs.declared.keystroke.Keystroke.TheVariants.{Typed, Erased}

-- that so many characters are erased and these typed is this keystroke
abbrev pub IsKeystroke : (erased : ℕ) → (typed : List ℕ) → Keystroke → Type 0
IsKeystroke erased typed (Typed ch) = (erased ≡ 0) × (typed ≡ ch ∷ [])
IsKeystroke erased typed Erased = (erased ≡ 1) × (typed ≡ [])
