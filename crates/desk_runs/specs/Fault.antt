-- The numbers of faults, and the statuses that they end the program with.
use Rattle.std.specs.Prelude.{ℕ}
use Rattle.desk_files.specs.Fault.{run_code, status_of}
use Rattle.desk_runs.specs.declared.typing_fault.TypingFault.{TypingFault}
use Rattle.desk_runs.specs.declared.typing_fault.TypingFault.TheVariants.{NotUtf8, Run, PastEnd, Full, CounterSpent}

abbrev pub typing_code : TypingFault → ℕ
typing_code (Run fault) = run_code fault
typing_code (PastEnd place erased) = 6
typing_code (NotUtf8 byte) = 11
typing_code CounterSpent = 12
typing_code Full = 13

-- that of a run's fault, else 1
abbrev pub typing_status : TypingFault → ℕ
typing_status (Run fault) = status_of fault
typing_status (PastEnd place erased) = 1
typing_status (NotUtf8 byte) = 1
typing_status CounterSpent = 1
typing_status Full = 1
