-- The lines of a file, one after the other.
use Rattle.std.proofs.Common.{◌≡◌, ◌==◌, ℕ, ◌+◌, ◌-◌, ◌<◌, ◌≤◌, Bool, List, [], ◌∷◌, length, drop, take, ap, ◌∙◌, sym, arith}
use Rattle.std.specs.List.{position_or_len}
use Rattle.std.proofs.lemmas.List.{take_rest}
use Rattle.std.proofs.lemmas.List.Splits.{slice_split_none, slice_split_first, length-slice_split}
use Rattle.std.proofs.lemmas.List.Sums.{fails_before_first, count_by-le-length}
use Rattle.ucd_files.specs.Line.{lines_of}

abbrev is_feed : ℕ → Bool
is_feed b = b == 10

-- a text without a line feed is one line
pub lines_of-last : (text : List ℕ) → length text ≤ position_or_len is_feed text → lines_of text ≡ text ∷ []
lines_of-last text h = slice_split_none is_feed text (λ k d h'. fails_before_first is_feed text k d (omega arith))

-- otherwise the first line ends at the first line feed
pub lines_of-more : (text : List ℕ) (place : ℕ) → place ≡ position_or_len is_feed text → place < length text
    → lines_of text ≡ take place text ∷ lines_of (take (length text - (place + 1)) (drop (place + 1) text))
lines_of-more text place is h =
    slice_split_first is_feed text 0 (omega arith)
    ∙ ap (λ n. take n text ∷ lines_of (drop (n + 1) text)) (sym is)
    ∙ ap (λ t. take place text ∷ lines_of t) (sym (take_rest text (place + 1)))

-- a file has at most one more line than bytes
pub length-lines_of-le : (bytes : List ℕ) → length (lines_of bytes) ≤ length bytes + 1
length-lines_of-le bytes = omega (arith, length-slice_split is_feed bytes, count_by-le-length is_feed bytes)
