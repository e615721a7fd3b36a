-- Which file is faulty first.
use Rattle.std.specs.Prelude.{ℕ, List, Option}
use Rattle.std.specs.Option.{option_or, option_map}
use Rattle.ucd_files.specs.declared.fault.Cause.{Cause}
use Rattle.ucd_files.specs.declared.fault.UcdFault.{UcdFault}
use Rattle.ucd_files.specs.declared.fault.UcdFault.TheVariants.{At}
use Rattle.ucd_files.specs.declared.fault.UcdFile.{UcdFile}
use Rattle.ucd_files.specs.declared.fault.UcdFile.TheVariants.{Bidi, Brackets, Mirror, Lb, Ea}
use Rattle.ucd_files.specs.Reading.{Reading, first_fault}
use Rattle.ucd_files.specs.Files.{bidi_file, brackets_file, mirror_file, lb_file, ea_file}

-- a fault of a line, with the file
abbrev pub fault_at : UcdFile → Option (ℕ × Cause) → Option UcdFault
fault_at file fault = option_map (λ f. At file f.0 f.1) fault

-- a file's first fault, with the file
abbrev pub fault_in : {V : Type 0} → UcdFile → Reading V → List ℕ → Option UcdFault
fault_in file reading bytes = fault_at file (first_fault reading bytes)

-- the first fault of the first faulty file, in this order
abbrev pub fault_of : (bidi brackets mirror lb ea : List ℕ) → Option UcdFault
fault_of bidi brackets mirror lb ea =
    option_or (fault_in Bidi bidi_file bidi)
    (option_or (fault_in Brackets brackets_file brackets)
    (option_or (fault_in Mirror mirror_file mirror)
    (option_or (fault_in Lb lb_file lb)
    (fault_in Ea ea_file ea))))
