-- Maps over a list in which each place reads the list on both sides of it.
use Rattle.std.specs.Prelude.{Bool, List, [], ◌∷◌, if◌then◌else◌}

-- each element by the elements before it, the nearest first, by itself and by those after it
abbrev pub in_context_from : {A B : Type 0} → (List A → A → List A → B) → List A → List A → List B
in_context_from f before [] = []
in_context_from f before (x ∷ xs) = f before x xs ∷ in_context_from f (x ∷ before) xs

abbrev pub in_context : {A B : Type 0} → (List A → A → List A → B) → List A → List B
in_context f = in_context_from f []

-- the first element that passes, or d where there is none
abbrev pub nearest : {A : Type 0} → (A → Bool) → A → List A → A
nearest passes d [] = d
nearest passes d (x ∷ xs) = if passes x then x else nearest passes d xs
