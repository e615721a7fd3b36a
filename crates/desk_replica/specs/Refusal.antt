-- Which operation of a list a desk refuses first.
use Rattle.std.specs.Prelude.{◌≡◌, ◌≤◌, List, ◌∷◌, ◌++◌}
use Rattle.bg_types.specs.OperationSet.{OperationSet, size}
use Rattle.bg_types.specs.declared.op.OpView.{OpView}
use Rattle.desk_replica.specs.declared.answer.TakeFault.{TakeFault}
use Rattle.desk_replica.specs.Reply.{IsRefusal}
use Rattle.desk_replica.specs.SetOf.{IsSetOf}

-- a desk that takes the operations in this order has those before one that it refuses
pub record IsFirstRefusal (ops : List OpView) (fault : TakeFault) : Type 0 where
  pub before : List OpView
  pub op : OpView
  pub after : List OpView
  pub kept : OperationSet
  pub in_order : ops ≡ before ++ op ∷ after
  pub of_before : IsSetOf before kept
  pub limited : size kept ≤ 1_000_000
  pub refused : IsRefusal kept op fault
