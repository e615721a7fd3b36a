-- What the first byte of a code point in UTF-8 tells: how many bytes it has, and that it doesn't separate, or isn't shown by another.
use Rattle.std.specs.Prelude.{◌≡◌, ℕ, ◌+◌, ◌/◌, ◌<◌, nat_lt, Bool, true, ◌||◌, List, length, slice_index, if◌then◌else◌}
use Rattle.std.specs.Char.{len_utf8}
use Rattle.unicode_tables.specs.declared.first_bytes.FirstBytes.{FirstBytes}
use Rattle.unicode_tables.specs.declared.word.Word.{Word}
use Rattle.unicode_tables.specs.Classes.{is_separator, is_segment_separator}

-- the first byte of c in UTF-8
abbrev pub first_byte : ℕ → ℕ
first_byte c = if nat_lt c 0x80 then c else (if nat_lt c 0x800 then 0xC0 + c / 0x40 else (if nat_lt c 0x1_0000 then 0xE0 + c / 0x1000 else 0xF0 + c / 0x4_0000))

-- how many bytes a code point has that begins with this one; 0 where none does
abbrev pub len_from : (byte : ℕ) → ℕ
len_from byte = if nat_lt byte 0x80 then 1 else (if nat_lt byte 0xC0 then 0 else (if nat_lt byte 0xE0 then 2 else (if nat_lt byte 0xF0 then 3 else 4)))

-- a code point of this word separates paragraphs or segments
abbrev pub separates : Word → Bool
separates w = is_separator w.bidi || is_segment_separator w.bidi

-- a code point of this word may be shown by others at an odd level: it separates segments, or has a mirror (UAX #9, L4)
abbrev pub is_replaced : Word → Bool
is_replaced w = is_segment_separator w.bidi || w.has_mirror

-- by each byte how many bytes the code points have that begin with it, or 0
pub record AreSteps (steps : List ℕ) : Type 0 where
  pub bytes : length steps ≡ 256
  pub over : (c : ℕ) → c < 0x110000 → 0 < slice_index steps (first_byte c) → slice_index steps (first_byte c) ≡ len_utf8 c

-- there is no step over a code point below `end` that passes the test
abbrev pub StopAt : (test : ℕ → Bool) (end : ℕ) (steps : List ℕ) → Type 0
StopAt test end steps = (c : ℕ) → c < end → test c ≡ true → slice_index steps (first_byte c) ≡ 0

-- of the code points below `end`, which have these words, those that separate are not stepped over, and those that are replaced are not
pub record AreFirstBytes (word : ℕ → Word) (end : ℕ) (first_bytes : FirstBytes) : Type 0 where
  pub separators_len : AreSteps first_bytes.to_separators.steps
  pub replaced_len : AreSteps first_bytes.to_replaced.steps
  pub separators : StopAt (λ c. separates (word c)) end first_bytes.to_separators.steps
  pub replaced : StopAt (λ c. is_replaced (word c)) end first_bytes.to_replaced.steps
