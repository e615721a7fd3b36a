-- What a call leaves in a buffer of C.
use Rattle.std.specs.Prelude.{◌≡◌, ◌⊎◌, ◌<◌, ◌≤◌, ◌^◌, ℕ, List, ◌++◌, drop, length, map}

-- the bytes were asked for: their number is written, and they are at the front of the buffer, if it has room for them; else the
-- answer is 102, ShortBuffer, and the buffer is as it was
pub record IsCopied (bytes before after : List ℕ) (size answer : ℕ) : Type 0 where
  pub told : size ≡ length bytes
  pub fits : length bytes ≤ length before → (answer ≡ 0) × (after ≡ bytes ++ drop (length bytes) before)
  pub short : length before < length bytes → (answer ≡ 102) × (after ≡ before)

-- how many there are was written, and what they come to is at the front of the list, if it has room for them; else the answer
-- is 102, ShortBuffer, and the list is as it was
pub record AreListed {X Y : Type 0} (shown : X → Y) (items : List X) (before after : List Y) (count answer : ℕ) : Type 0 where
  pub told : count ≡ length items
  pub fits : length items ≤ length before → (answer ≡ 0) × (after ≡ map shown items ++ drop (length items) before)
  pub short : length before < length items → (answer ≡ 102) × (after ≡ before)

-- nothing was written, for a fault that is answered: the buffer is as it was, and the size is 0
abbrev pub IsLeft : (before after : List ℕ) → (size : ℕ) → Type 0
IsLeft before after size = (after ≡ before) × (size ≡ 0)

-- bytes that take memory to make were asked for: where it was refused, the answer is 9, Memory
abbrev pub IsWritten : (bytes before after : List ℕ) → (size answer : ℕ) → Type 0
IsWritten bytes before after size answer = IsCopied bytes before after size answer ⊎ ((answer ≡ 9) × IsLeft before after size)

-- a print was asked for, which takes memory to make: where it was refused, the answer is 9, Memory. Without a buffer its size alone
-- was asked for, which takes none: 9 says that it is 2^64 or more
abbrev pub IsPrinted : (bytes before after : List ℕ) → (size answer : ℕ) → Type 0
IsPrinted bytes before after size answer =
    IsCopied bytes before after size answer ⊎ ((answer ≡ 9) × IsLeft before after size × (length before ≡ 0 → 2 ^ 64 ≤ length bytes))

-- how many bytes there are was written, with no buffer for them
abbrev pub IsSize : (count size answer : ℕ) → Type 0
IsSize count size answer = (size ≡ count) × (0 < size → answer ≡ 102) × (size ≡ 0 → answer ≡ 0)
