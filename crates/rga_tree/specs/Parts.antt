-- Sets of operations, one of them part of the other.
use Rattle.bg_types.specs.OperationSet.{OperationSet, Holds}
use Rattle.bg_types.specs.declared.op.OpView.{OpView}

-- S is part of T: each operation of S is one of T
abbrev pub IsPartOf : OperationSet → OperationSet → Type 0
IsPartOf s t = (op : OpView) → Holds s op → Holds t op
