-- What the structs of C have of a desk's.
use Rattle.std.specs.Prelude.{◌<◌, ℕ}
use Rattle.c_desks.specs.declared.numbers.IdentifierNumbers.{IdentifierNumbers}
use Rattle.c_desks.specs.declared.numbers.Taken.{Taken}

abbrev pub no_identifier : IdentifierNumbers
no_identifier = record { counter = 0; site = 0 }

-- a message that was not read, or whose fault is in this frame
abbrev pub none_taken : ℕ → Taken
none_taken frame = record { operations = 0; taken = 0; frame = frame }

-- a site is 1 to 65,535
abbrev pub IsSite : ℕ → Type 0
IsSite site = (0 < site) × (site < 65_536)
