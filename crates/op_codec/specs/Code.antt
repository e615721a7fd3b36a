-- The numbers of faults, and the frames that they name.
use Rattle.std.specs.Prelude.{ℕ, Option, Some, None}
use Rattle.op_codec.specs.declared.fault.Cause.{Cause}
use Rattle.op_codec.specs.declared.fault.Cause.TheVariants.{BadMagic, BadVersion, Truncated, UnknownKind, BadLength, ZeroField, ParentNotBefore, NotAScalar, CounterOverflow, NotJoined}
use Rattle.op_codec.specs.declared.fault.CodecFault.{CodecFault}
use Rattle.op_codec.specs.declared.fault.CodecFault.TheVariants.{Malformed, Memory}

abbrev pub cause_code : Cause → ℕ
cause_code BadMagic = 1
cause_code BadVersion = 2
cause_code Truncated = 3
cause_code UnknownKind = 4
cause_code BadLength = 5
cause_code ZeroField = 6
cause_code ParentNotBefore = 7
cause_code NotAScalar = 8
cause_code CounterOverflow = 10
cause_code NotJoined = 11

abbrev pub fault_code : CodecFault → ℕ
fault_code (Malformed frame cause) = cause_code cause
fault_code Memory = 9

-- the faulty frame, from 1, or 0 for the header
abbrev pub frame_number : CodecFault → Option ℕ
frame_number (Malformed frame cause) = Some frame
frame_number Memory = None
