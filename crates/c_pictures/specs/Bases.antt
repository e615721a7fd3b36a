-- The base directions by their numbers.
use Rattle.std.specs.Prelude.{ℕ, ◌==◌, Option, Some, None, if◌then◌else◌}
use Rattle.bg_types.specs.declared.class.Base.{Base}
use Rattle.bg_types.specs.declared.class.Base.TheVariants.{Auto, Left, Right}

-- 0 by the first strong character, 1 left to right, 2 right to left
abbrev pub base_of : ℕ → Option Base
base_of n = if n == 0 then Some Auto else (if n == 1 then Some Left else (if n == 2 then Some Right else None))
