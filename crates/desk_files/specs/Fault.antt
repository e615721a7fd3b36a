-- The numbers of faults, and the statuses that they end the program with.
use Rattle.std.specs.Prelude.{ℕ}
use Rattle.ucd_files.specs.declared.fault.UcdFault.{UcdFault}
use Rattle.ucd_files.specs.declared.fault.UcdFault.TheVariants as ucd
use Rattle.op_codec.specs.declared.fault.CodecFault.TheVariants as codec
use Rattle.op_listing.specs.declared.file_fault.FileFault.{FileFault}
use Rattle.op_listing.specs.declared.file_fault.FileFault.TheVariants as file
use Rattle.op_listing.specs.declared.listing_fault.ListingFault.{ListingFault}
use Rattle.op_listing.specs.declared.listing_fault.ListingFault.TheVariants as listing
use Rattle.desk_files.specs.declared.schedule_fault.ScheduleFault.{ScheduleFault}
use Rattle.desk_files.specs.declared.schedule_fault.ScheduleFault.TheVariants as schedule
use Rattle.desk_files.specs.declared.run_fault.RunFault.{RunFault}
use Rattle.desk_files.specs.declared.run_fault.RunFault.TheVariants as run

abbrev pub schedule_code : ScheduleFault → ℕ
schedule_code schedule.UnknownStep = 1
schedule_code schedule.WrongWords = 2
schedule_code schedule.BadNumber = 3
schedule_code schedule.NoSuchDesk = 4
schedule_code schedule.NoSuchFile = 5
schedule_code schedule.NoSuchOperation = 6

abbrev pub run_code : RunFault → ℕ
run_code (run.Tables fault) = 1
run_code (run.File file fault) = 2
run_code (run.Schedule line fault) = 3
run_code (run.Step line desk fault) = 4
run_code (run.Listing line fault) = 5
run_code run.Device = 7
run_code (run.PastEnd place) = 6
run_code (run.ReadFailed file) = 8
run_code (run.TooLong file) = 10
run_code run.Memory = 9

-- 1 for a faulty data file, operation file, schedule or listing or a refused step, 3 for a device, a file that can't be read, or lack of memory
abbrev pub status_of : RunFault → ℕ
status_of (run.Tables fault) = 1
status_of (run.File file fault) = 1
status_of (run.Schedule line fault) = 1
status_of (run.Step line desk fault) = 1
status_of (run.Listing line fault) = 1
status_of run.Device = 3
status_of (run.PastEnd place) = 1
status_of (run.ReadFailed file) = 3
status_of (run.TooLong file) = 1
status_of run.Memory = 3

-- ---- the faults of data files and of conversions, as faults of a run

abbrev pub of_ucd_fault : UcdFault → RunFault
of_ucd_fault (ucd.At file line cause) = run.Tables (ucd.At file line cause)
of_ucd_fault ucd.Memory = run.Memory

-- a conversion reads one file, which has number 1
abbrev pub of_file_fault : FileFault → RunFault
of_file_fault (file.Malformed frame cause) = run.File 1 (codec.Malformed frame cause)
of_file_fault file.Device = run.Device
of_file_fault file.Memory = run.Memory

abbrev pub of_listing_fault : ListingFault → RunFault
of_listing_fault (listing.Malformed at fault) = run.Listing at fault
of_listing_fault listing.Device = run.Device
of_listing_fault listing.Memory = run.Memory
