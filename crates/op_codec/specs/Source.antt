-- What a source is asked for.
use Rattle.std.specs.Prelude.{ℕ}

-- the greatest number of bytes that a source is asked for at once
abbrev pub greatest_piece : ℕ
greatest_piece = 4_096
