-- Identifiers, named by counter and site.
use Rattle.std.specs.Prelude.{ℕ}
use Rattle.bg_types.specs.Identifier.{Identifier}

abbrev pub stamp : ℕ → ℕ → Identifier
stamp counter site = record { counter = counter; site = site }
