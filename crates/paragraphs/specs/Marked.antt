-- A plain code point with the marks behind it.
use Rattle.std.specs.Prelude.{◌≡◌, ℕ, ◌<◌, ◌≤◌, Bool, true, ◌==◌, ◌||◌, List, length, slice_index}
use Rattle.unicode_tables.specs.Alone.{is_between, is_plain}

-- the marks that most marked text of Hebrew, Arabic and Latin has
abbrev pub is_mark : ℕ → Bool
is_mark c =
    is_between 0x591 0x5BD c || (is_between 0x64B 0x65F c || (is_between 0x300 0x36F c || (c == 0x5BF || (is_between 0x5C1 0x5C2 c || (is_between 0x5C4 0x5C5 c || (c == 0x5C7 || c == 0x670))))))

-- the first n of these code points are a plain one and marks, and a plain one follows them, or nothing
pub record AreMarked (points : List ℕ) (n : ℕ) : Type 0 where
  pub some : 0 < n
  pub within : n ≤ length points
  pub plain : is_plain (slice_index points 0) ≡ true
  pub marks : (k : ℕ) → 0 < k → k < n → is_mark (slice_index points k) ≡ true
  pub behind : n < length points → is_plain (slice_index points n) ≡ true
