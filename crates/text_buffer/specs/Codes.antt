-- The numbers of the faults.
use Rattle.std.specs.Prelude.{ℕ}
use Rattle.text_buffer.specs.declared.fault.BufferFault.{BufferFault}
use Rattle.text_buffer.specs.declared.fault.BufferFault.TheVariants.{TooLong, Memory}

abbrev pub buffer_code : BufferFault → ℕ
buffer_code TooLong = 1
buffer_code Memory = 9
