-- The numbers of the faults.
use Rattle.std.specs.Prelude.{ℕ}
use Rattle.ucd_files.specs.declared.fault.Cause.{Cause}
use Rattle.ucd_files.specs.declared.fault.Cause.TheVariants.{BadUtf8, BadCode, BadRange, MissingField, UnknownValue}
use Rattle.ucd_files.specs.declared.fault.UcdFault.{UcdFault}
use Rattle.ucd_files.specs.declared.fault.UcdFault.TheVariants.{At, Memory}

abbrev pub cause_code : Cause → ℕ
cause_code BadUtf8 = 1
cause_code BadCode = 2
cause_code BadRange = 3
cause_code MissingField = 4
cause_code UnknownValue = 5

-- lack of memory has 9, as in every fault type
abbrev pub fault_code : UcdFault → ℕ
fault_code (At file line cause) = cause_code cause
fault_code Memory = 9
