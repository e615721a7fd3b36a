-- What one desk has taken of operations that come one after the other.
use Rattle.std.specs.Prelude.{◌≡◌, ◌≤◌, ◌⊎◌, ◌+◌, ◌++◌, List, Option, Some, None, length}
use Rattle.std.specs.List.Sorted.{IsPermutation}
use Rattle.bg_types.specs.OperationSet.{OperationSet, size}
use Rattle.bg_types.specs.declared.op.OpView.{OpView}
use Rattle.desk_replica.specs.declared.answer.TakeFault.{TakeFault}
use Rattle.desk_replica.specs.SetOf.{IsSetOf}
use Rattle.desk_replica.specs.Refusal.{IsFirstRefusal}

-- all of them, or those before the first that it refused
abbrev pub HasTaken : (ops : List OpView) (kept : OperationSet) (refused : Option TakeFault) → Type 0
HasTaken ops kept None = IsSetOf ops kept × (size kept ≤ 1_000_000)
HasTaken ops kept (Some fault) = IsFirstRefusal ops fault

-- all of them but the last ones, which wait
abbrev pub HasTakenBut : (waiting ops : List OpView) (kept : OperationSet) (refused : Option TakeFault) → Type 0
HasTakenBut waiting ops kept refused = (taken : List OpView) × (ops ≡ taken ++ waiting) × HasTaken taken kept refused

-- the operations, or the same ones in another order where a desk with S has room for them all
abbrev pub IsReordered : (kept : OperationSet) (ops other : List OpView) → Type 0
IsReordered kept ops other = (other ≡ ops) ⊎ (IsPermutation ops other × (size kept + length ops ≤ 1_000_000))
