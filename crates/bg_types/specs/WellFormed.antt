-- Which operations there are: the definition WellFormed.
use Rattle.std.specs.Prelude.{◌<◌}
use Rattle.std.specs.Char.{IsScalar}
use Rattle.bg_types.specs.Identifier.{Identifier, IsIdentifier}
use Rattle.bg_types.specs.declared.op.Place.{Place}
use Rattle.bg_types.specs.declared.op.Place.TheVariants.{Root, After}
use Rattle.bg_types.specs.declared.op.OpView.{OpView}
use Rattle.bg_types.specs.declared.op.OpView.TheVariants.{Insert, Erase}

-- the parent is the root, or an identifier with a smaller counter
abbrev pub MayFollow : Place → Identifier → Type 0
MayFollow Root id = Unit {0}
MayFollow (After parent) id = IsIdentifier parent × (parent.counter < id.counter)

-- counters, sites and the character are in range, and an insertion follows its parent
abbrev pub IsWellFormed : OpView → Type 0
IsWellFormed (Insert id parent ch) = IsIdentifier id × MayFollow parent id × IsScalar ch
IsWellFormed (Erase target) = IsIdentifier target
