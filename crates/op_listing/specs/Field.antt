-- What the readers of a line's words hand on.
use Rattle.bg_types.specs.Identifier.{Identifier}
use Rattle.bg_types.specs.declared.op.Place.{Place}
use Rattle.bg_types.specs.declared.op.Place.TheVariants as place
use Rattle.op_listing.specs.declared.field.Numbers.{Numbers}
use Rattle.op_listing.specs.declared.field.Parent.{Parent}
use Rattle.op_listing.specs.declared.field.Parent.TheVariants.{Root, After}

abbrev pub identifier_of : Numbers → Identifier
identifier_of numbers = record { counter = numbers.counter; site = numbers.site }

abbrev pub parent_place : Parent → Place
parent_place Root = place.Root
parent_place (After numbers) = place.After (identifier_of numbers)
