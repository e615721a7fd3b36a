-- What one character says of a paragraph's level (UAX #9, P2 and P3).
use Rattle.std.specs.Prelude.{ℕ, ◌+◌, ◌-◌, Option, Some, None}
use Rattle.bg_types.specs.declared.class.Bidi.{Bidi}
use Rattle.bg_types.specs.declared.class.Bidi.TheVariants.{L, R, Al, Lri, Rli, Fsi, Pdi}

-- the level that a strong class sets
abbrev pub strong_level : Bidi → Option ℕ
strong_level L = Some 0
strong_level R = Some 1
strong_level Al = Some 1
strong_level _ = None

-- how many isolates are open after a character, where `depth` are open before it
abbrev pub depth_behind : ℕ → Bidi → ℕ
depth_behind depth Lri = depth + 1
depth_behind depth Rli = depth + 1
depth_behind depth Fsi = depth + 1
depth_behind depth Pdi = depth - 1
depth_behind depth _ = depth
