-- The numbers of the faults.
use Rattle.std.specs.Prelude.{ℕ}
use Rattle.desk_replica.specs.declared.answer.TakeFault.{TakeFault}
use Rattle.desk_replica.specs.declared.answer.TakeFault.TheVariants.{IdentifierReused, Full, Memory}
use Rattle.desk_replica.specs.declared.answer.TypeFault.{TypeFault}
use Rattle.desk_replica.specs.declared.answer.TypeFault.TheVariants.{CounterSpent, Full as TypeFull, Memory as TypeMemory}
use Rattle.desk_replica.specs.declared.world.WorldFault.{WorldFault}
use Rattle.desk_replica.specs.declared.world.WorldFault.TheVariants.{BadSites, Memory as WorldMemory}

abbrev pub take_code : TakeFault → ℕ
take_code IdentifierReused = 1
take_code Full = 2
take_code Memory = 9

abbrev pub type_code : TypeFault → ℕ
type_code CounterSpent = 1
type_code TypeFull = 2
type_code TypeMemory = 9

abbrev pub world_code : WorldFault → ℕ
world_code BadSites = 1
world_code WorldMemory = 9
