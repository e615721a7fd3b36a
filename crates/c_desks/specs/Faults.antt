-- The faults of messages and desks, as C has them.
use Rattle.std.specs.Prelude.{ℕ, ◌+◌}
use Rattle.op_codec.specs.declared.fault.CodecFault.{CodecFault}
use Rattle.op_codec.specs.declared.fault.CodecFault.TheVariants as codec
use Rattle.op_codec.specs.Code.{cause_code as message_cause}
use Rattle.desk_replica.specs.declared.answer.TakeFault.{TakeFault}
use Rattle.desk_replica.specs.declared.answer.TakeFault.TheVariants as taking
use Rattle.desk_replica.specs.declared.answer.TypeFault.{TypeFault}
use Rattle.desk_replica.specs.declared.answer.TypeFault.TheVariants as typing

-- a message's fault is 300 and its cause's number
abbrev pub message_number : CodecFault → ℕ
message_number (codec.Malformed frame cause) = 300 + message_cause cause
message_number codec.Memory = 9

abbrev pub take_number : TakeFault → ℕ
take_number taking.IdentifierReused = 201
take_number taking.Full = 202
take_number taking.Memory = 9

abbrev pub type_number : TypeFault → ℕ
type_number typing.CounterSpent = 203
type_number typing.Full = 202
type_number typing.Memory = 9
