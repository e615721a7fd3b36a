-- The set of the operations of a list.
use Rattle.std.specs.Prelude.{◌↔◌, List, Contains}
use Rattle.bg_types.specs.OperationSet.{OperationSet, Holds}
use Rattle.bg_types.specs.declared.op.OpView.{OpView}

-- the set has the operations of the list and no others, whatever their order and repeats
abbrev pub IsSetOf : List OpView → OperationSet → Type 0
IsSetOf ops s = (op : OpView) → Holds s op ↔ Contains ops op
