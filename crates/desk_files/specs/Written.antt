-- What is written after a run that wrote nothing.
use Rattle.std.specs.Prelude.{◌≡◌, false, Bool, ℕ, List, Option}
use Rattle.std.specs.Io.KnownBytes.{Keeps}

-- no write failed, and nothing is written
abbrev pub IsSilent : (old new : Option (List ℕ)) (failed : Bool) → Type 0
IsSilent old new failed = (failed ≡ false) × Keeps old new
