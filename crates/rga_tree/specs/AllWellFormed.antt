-- That each operation is well formed has at most one proof, so that a ghost field may say it.
use mathlib.Core.Bool.{Bool-set}
use Rattle.std.specs.Coded.{×_prop, Unit-prop, le_prop}
use Rattle.bg_types.specs.Identifier.{Identifier, IsIdentifier}
use Rattle.bg_types.specs.WellFormed.{MayFollow, IsWellFormed}
use Rattle.bg_types.specs.OperationSet.{OperationSet, AllWellFormed}
use Rattle.bg_types.specs.declared.op.Place.{Place}
use Rattle.bg_types.specs.declared.op.Place.TheVariants.{Root, After}
use Rattle.bg_types.specs.declared.op.OpView.{OpView}
use Rattle.bg_types.specs.declared.op.OpView.TheVariants.{Insert, Erase}

IsIdentifier-prop : (id : Identifier) → IsProp (IsIdentifier id)
IsIdentifier-prop id p q i = record {
  counter_positive = le_prop p.counter_positive q.counter_positive i;
  counter_fits = le_prop p.counter_fits q.counter_fits i;
  site_positive = le_prop p.site_positive q.site_positive i;
  site_fits = le_prop p.site_fits q.site_fits i;
}

MayFollow-prop : (p : Place) (id : Identifier) → IsProp (MayFollow p id)
MayFollow-prop Root id = Unit-prop
MayFollow-prop (After parent) id = ×_prop (IsIdentifier-prop parent) le_prop

IsWellFormed-prop : (op : OpView) → IsProp (IsWellFormed op)
IsWellFormed-prop (Insert id parent ch) p q i = (IsIdentifier-prop id p.0 q.0 i, MayFollow-prop parent id p.1 q.1 i, Bool-set _ _ p.2 q.2 i)
IsWellFormed-prop (Erase target) p q i = IsIdentifier-prop target p q i

pub AllWellFormed-prop : (s : OperationSet) → IsProp (AllWellFormed s)
AllWellFormed-prop s p q i op h = IsWellFormed-prop op (p op h) (q op h) i
