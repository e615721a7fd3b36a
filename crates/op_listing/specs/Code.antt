-- The numbers of faults.
use Rattle.std.specs.Prelude.{ℕ}
use Rattle.op_codec.specs.declared.fault.CodecFault.{CodecFault}
use Rattle.op_codec.specs.declared.fault.CodecFault.TheVariants as codec
use Rattle.op_listing.specs.declared.line_fault.LineFault.{LineFault}
use Rattle.op_listing.specs.declared.line_fault.LineFault.TheVariants.{BadLine, ZeroField, ParentNotBefore, NotAScalar}
use Rattle.op_listing.specs.declared.file_fault.FileFault.{FileFault}
use Rattle.op_listing.specs.declared.file_fault.FileFault.TheVariants as file
use Rattle.op_listing.specs.declared.listing_fault.ListingFault.{ListingFault}
use Rattle.op_listing.specs.declared.listing_fault.ListingFault.TheVariants as listing

abbrev pub line_code : LineFault → ℕ
line_code BadLine = 1
line_code ZeroField = 2
line_code ParentNotBefore = 3
line_code NotAScalar = 4

abbrev pub file_code : FileFault → ℕ
file_code (file.Malformed frame cause) = 2
file_code file.Device = 7
file_code file.Memory = 9

-- a faulty file stays faulty, and lack of memory stays lack of memory
abbrev pub file_fault_of : CodecFault → FileFault
file_fault_of (codec.Malformed frame cause) = file.Malformed frame cause
file_fault_of codec.Memory = file.Memory

abbrev pub listing_code : ListingFault → ℕ
listing_code (listing.Malformed line fault) = 5
listing_code listing.Device = 7
listing_code listing.Memory = 9
