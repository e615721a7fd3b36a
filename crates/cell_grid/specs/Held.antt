-- The end of a print, which is held until its sink takes it.
use Rattle.std.specs.Prelude.{◌≡◌, ℕ, List, ◌++◌, Option}
use Rattle.std.specs.Io.KnownBytes.{Appends}

-- these bytes are appended, but for their end, which is held
pub record AppendsAllBut (old new : Option (List ℕ)) (bytes held : List ℕ) : Type 0 where
  pub written : List ℕ
  pub appends : Appends old new written
  pub whole : bytes ≡ written ++ held
