-- Whether an operation is known in S, new, or under an identifier that S has with something else.
use Rattle.bg_types.specs.OperationSet.{OperationSet, Holds, MayJoin, ReusesIdentifier}
use Rattle.bg_types.specs.declared.op.OpView.{OpView}
use Rattle.desk_replica.specs.declared.placing.Standing.{Standing}
use Rattle.desk_replica.specs.declared.placing.Standing.TheVariants.{Known, Reused, New}

abbrev pub IsStanding : OperationSet → OpView → Standing → Type 0
IsStanding s op Known = Holds s op
IsStanding s op Reused = ReusesIdentifier s op
IsStanding s op New = MayJoin s op × (¬ (Holds s op))
