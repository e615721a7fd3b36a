-- Uses of keys: which are kept after them, and how many find nothing.
use Rattle.std.specs.Prelude.{ℕ, ◌+◌, Bool, true, false, List, [], ◌∷◌, take, if◌then◌else◌}
use Rattle.view_cache.specs.Keys.{ParagraphKey, same_key}

-- a key is among these
abbrev pub is_kept : ParagraphKey → List ParagraphKey → Bool
is_kept key [] = false
is_kept key (k ∷ kept) = if same_key key k then true else is_kept key kept

-- these without the first one equal to this key
abbrev pub without : ParagraphKey → List ParagraphKey → List ParagraphKey
without key [] = []
without key (k ∷ kept) = if same_key key k then kept else k ∷ without key kept

-- the keys after a use of one: it goes to the front, and the list is cut to the room
abbrev pub used : (room : ℕ) → ParagraphKey → List ParagraphKey → List ParagraphKey
used room key kept = take room (key ∷ without key kept)

-- the keys after uses, in order
abbrev pub all_used : (room : ℕ) → List ParagraphKey → List ParagraphKey → List ParagraphKey
all_used room [] kept = kept
all_used room (key ∷ uses) kept = all_used room uses (used room key kept)

-- how many of these uses find that their key isn't kept at their turn
abbrev pub laid_anew : (room : ℕ) → List ParagraphKey → List ParagraphKey → ℕ
laid_anew room [] kept = 0
laid_anew room (key ∷ uses) kept = (if is_kept key kept then 0 else 1) + laid_anew room uses (used room key kept)
