-- The data files that C hands in: what they say, and where one is faulty.
use Rattle.std.specs.Prelude.{◌≡◌, ◌⊎◌, ℕ, ◌+◌, Option, Some}
use Rattle.ucd_files.specs.declared.fault.UcdFault.{UcdFault}
use Rattle.ucd_files.specs.declared.fault.UcdFault.TheVariants.{At, Memory}
use Rattle.ucd_files.specs.declared.fault.UcdFile.{UcdFile}
use Rattle.ucd_files.specs.declared.fault.UcdFile.TheVariants.{Bidi, Brackets, Mirror, Lb, Ea}
use Rattle.ucd_files.specs.FaultCode.{cause_code}
use Rattle.c_pictures.specs.declared.data.DataFault.{DataFault}
use Rattle.unicode_tables.specs.Tables.{TableValues}
use Rattle.ucd_files.specs.Faults.{fault_of}
use Rattle.ucd_files.specs.Ucd.{tables_of}
use Rattle.c_pictures.specs.declared.data.DataFiles.{DataFiles}

-- a data file's fault is 400 and its cause's number; lack of memory is 9
abbrev pub data_number : UcdFault → ℕ
data_number (At file line cause) = 400 + cause_code cause
data_number Memory = 9

-- the files from 1, in the order in which they are handed in
abbrev pub file_number : UcdFile → ℕ
file_number Bidi = 1
file_number Brackets = 2
file_number Mirror = 3
file_number Lb = 4
file_number Ea = 5

-- no file is faulty
abbrev pub no_data_fault : DataFault
no_data_fault = record { line = 0; file = 0 }

-- where a fault is: its file and line; of lack of memory 0 and 0
abbrev pub data_fault : UcdFault → DataFault
data_fault (At file line cause) = record { line = line; file = file_number file }
data_fault Memory = no_data_fault

-- files whose first fault this is were refused with the number, and where it is was written; or memory was
abbrev pub IsRefusedData : Option UcdFault → (answer : ℕ) → DataFault → Type 0
IsRefusedData first answer told = ((answer ≡ 9) × (told ≡ no_data_fault)) ⊎ ((fault : UcdFault) × (first ≡ Some fault) × (answer ≡ data_number fault) × (told ≡ data_fault fault))

abbrev pub tables_of_files : DataFiles → TableValues
tables_of_files f = tables_of f.bidi.now f.brackets.now f.mirror.now f.lb.now f.ea.now

-- the first fault of the first faulty file
abbrev pub fault_of_files : DataFiles → Option UcdFault
fault_of_files f = fault_of f.bidi.now f.brackets.now f.mirror.now f.lb.now f.ea.now
