-- The first fault of a file.
use Rattle.std.proofs.Common.{◌≡◌, ◌<◌, ℕ, List, length, Some, None, refl, arith}
use Rattle.std.proofs.lemmas.Bool.{lt-ltb, le-ltb}
use Rattle.std.proofs.lemmas.Str.{utf8_valid_len-IsUtf8}
use Rattle.std.specs.Str.{IsUtf8}
use Rattle.std.specs.Str.Lossy.{utf8_valid_len}
use Rattle.ucd_files.specs.declared.fault.Cause.TheVariants.{BadUtf8}
use Rattle.ucd_files.specs.declared.fault.UcdFault.{UcdFault}
use Rattle.ucd_files.specs.declared.fault.UcdFile.TheVariants.{Bidi, Brackets, Mirror, Lb}
use Rattle.ucd_files.specs.Line.{lines_of}
use Rattle.ucd_files.specs.Reading.{Reading, line_at, line_of, first_faulty, first_fault}
use Rattle.ucd_files.specs.Files.{bidi_file, brackets_file, mirror_file, lb_file}
use Rattle.ucd_files.specs.Faults.{fault_in, fault_of}

-- a byte that isn't UTF-8 comes before all others
pub first_fault-bad : {V : Type 0} (reading : Reading V) (bytes : List ℕ) (at line : ℕ) → at < length bytes → at ≡ utf8_valid_len bytes → line ≡ line_at bytes at
    → first_fault reading bytes ≡ Some (line, BadUtf8)
unfolding first_fault
first_fault-bad reading bytes at line within is told = rw (← is, lt-ltb at (length bytes) within, told) refl

pub first_fault-text : {V : Type 0} (reading : Reading V) (bytes : List ℕ) → IsUtf8 bytes → first_fault reading bytes ≡ first_faulty (line_of reading) (lines_of bytes) 1
unfolding first_fault
first_fault-text reading bytes whole = rw (le-ltb (utf8_valid_len bytes) (length bytes) (omega (arith, utf8_valid_len-IsUtf8 bytes whole))) refl

-- the fourth file's fault, where the three before it have none
pub fault_of-lb : (bidi brackets mirror lb ea : List ℕ) (fault : UcdFault) → fault_in Bidi bidi_file bidi ≡ None → fault_in Brackets brackets_file brackets ≡ None
    → fault_in Mirror mirror_file mirror ≡ None → fault_in Lb lb_file lb ≡ Some fault → fault_of bidi brackets mirror lb ea ≡ Some fault
fault_of-lb bidi brackets mirror lb ea fault b k m l = rw (b, k, m, l) refl
