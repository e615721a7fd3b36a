-- How a run that has nothing to do ends.
use Rattle.std.specs.Prelude.{◌≡◌, ℕ, Bool, false, List, [], Option, string_bytes, if◌then◌else◌}
use Rattle.std.specs.Io.KnownBytes.{Appends, Keeps}
use Rattle.command_line.specs.declared.stop.Stop.{Stop}
use Rattle.command_line.specs.declared.stop.Stop.TheVariants.{Help, Usage, Memory}

-- the status, by whether the help was lost
abbrev pub status_of : Stop → Bool → ℕ
status_of (Help text) lost = if lost then 3 else 0
status_of (Usage text) lost = 2
status_of Memory lost = 3

-- what standard output gets
abbrev pub help_of : Stop → List ℕ
help_of (Help text) = string_bytes text
help_of (Usage text) = []
help_of Memory = []

-- what standard error gets: the text about the command line, unless a write of it fails; nothing besides the whole help
abbrev pub IsReported : Stop → (out_failed err_failed : Bool) → (old new : Option (List ℕ)) → Type 0
IsReported (Help text) out_failed err_failed old new = out_failed ≡ false → Keeps old new
IsReported (Usage text) out_failed err_failed old new = err_failed ≡ false → Appends old new (string_bytes text)
IsReported Memory out_failed err_failed old new = Unit {0}
