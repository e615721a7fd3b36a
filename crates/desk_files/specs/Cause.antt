-- Why a part of a run ended early. Each fault stands only where its cause is present, and lack of memory has none.
use Rattle.std.specs.Prelude.{◌≡◌, ℕ, List}
use Rattle.op_codec.specs.declared.fault.CodecFault.{CodecFault}
use Rattle.op_codec.specs.declared.fault.CodecFault.TheVariants as codec
use Rattle.desk_replica.specs.declared.answer.TakeFault.{TakeFault}
use Rattle.desk_replica.specs.declared.answer.TakeFault.TheVariants as take
use Rattle.desk_files.specs.declared.run_fault.RunFault.{RunFault}
use Rattle.desk_files.specs.declared.run_fault.RunFault.TheVariants.{Tables, File, Schedule, Step, Listing, Device, PastEnd, ReadFailed, Memory, TooLong}
use Rattle.desk_files.specs.Reading.{malformed, too_long}
use Rattle.bg_types.specs.declared.op.OpView.{OpView}
use Rattle.desk_files.specs.Files.{IsFaultyFile, AreRefused}
use Rattle.desk_files.specs.Schedule.{IsFaultyStep}

-- ---- the files

-- the first faulty file
abbrev pub IsReadCaused : List (List ℕ) → RunFault → Type 0
IsReadCaused files (Tables fault) = ⊥
IsReadCaused files (File n (codec.Malformed frame cause)) = IsFaultyFile files n (malformed frame cause)
IsReadCaused files (File n codec.Memory) = ⊥
IsReadCaused files (Schedule line fault) = ⊥
IsReadCaused files (Step line desk fault) = ⊥
IsReadCaused files (Listing line fault) = ⊥
IsReadCaused files Device = ⊥
IsReadCaused files (PastEnd place) = ⊥
IsReadCaused files (ReadFailed file) = ⊥
IsReadCaused files (TooLong n) = IsFaultyFile files n too_long
IsReadCaused files Memory = Unit {0}

-- ---- a schedule, in a run over files of these operations

-- its first faulty line
abbrev pub IsScheduleCaused : List (List OpView) → List ℕ → RunFault → Type 0
IsScheduleCaused files bytes (Tables fault) = ⊥
IsScheduleCaused files bytes (File n fault) = ⊥
IsScheduleCaused files bytes (Schedule line fault) = IsFaultyStep files bytes line fault
IsScheduleCaused files bytes (Step line desk fault) = ⊥
IsScheduleCaused files bytes (Listing line fault) = ⊥
IsScheduleCaused files bytes Device = ⊥
IsScheduleCaused files bytes (PastEnd place) = ⊥
IsScheduleCaused files bytes (ReadFailed file) = ⊥
IsScheduleCaused files bytes (TooLong file) = ⊥
IsScheduleCaused files bytes Memory = Unit {0}

-- ---- one desk that takes the operations of all files

-- the first faulty file, or a refused operation: a step of desk 1 without a schedule, which is line 0
abbrev pub IsTakingCaused : List (List ℕ) → RunFault → Type 0
IsTakingCaused files (Tables fault) = ⊥
IsTakingCaused files (File n (codec.Malformed frame cause)) = IsFaultyFile files n (malformed frame cause)
IsTakingCaused files (File n codec.Memory) = ⊥
IsTakingCaused files (Schedule line fault) = ⊥
IsTakingCaused files (Step line desk fault) = (line ≡ 0) × (desk ≡ 1) × AreRefused files fault
IsTakingCaused files (Listing line fault) = ⊥
IsTakingCaused files Device = ⊥
IsTakingCaused files (PastEnd place) = ⊥
IsTakingCaused files (ReadFailed file) = ⊥
IsTakingCaused files (TooLong n) = IsFaultyFile files n too_long
IsTakingCaused files Memory = Unit {0}

-- ---- the answer of a run

-- to the fault of a file: lack of memory is the fault of no file
abbrev pub file_fault_of : ℕ → CodecFault → RunFault
file_fault_of n (codec.Malformed frame cause) = File n (codec.Malformed frame cause)
file_fault_of n codec.Memory = Memory

-- to what a desk answered to the step of a line: lack of memory is the fault of no step
abbrev pub step_fault_of : (line desk : ℕ) → TakeFault → RunFault
step_fault_of line desk take.IdentifierReused = Step line desk take.IdentifierReused
step_fault_of line desk take.Full = Step line desk take.Full
step_fault_of line desk take.Memory = Memory
