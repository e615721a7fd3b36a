-- The five data files and the choice of width as one value.
use Rattle.std.specs.Prelude.{ℕ, false, List, Option}
use Rattle.unicode_tables.specs.Tables.{TableValues, each_code_point, with_width}
use Rattle.ucd_files.specs.declared.fault.UcdFault.{UcdFault}
use Rattle.ucd_files.specs.declared.files.Ucd.{Ucd}
use Rattle.ucd_files.specs.Reading.{value_at}
use Rattle.ucd_files.specs.Files.{bidi_file, brackets_file, mirror_file, lb_file, ea_file}
use Rattle.ucd_files.specs.Faults.{fault_of}

-- the tables of five files: at each code point the value that the file gives it, and ambiguous characters narrow
abbrev pub tables_of : (bidi brackets mirror lb ea : List ℕ) → TableValues
tables_of bidi brackets mirror lb ea = record {
  bidi = each_code_point (value_at bidi_file bidi);
  bracket = each_code_point (value_at brackets_file brackets);
  mirror = each_code_point (value_at mirror_file mirror);
  lb = each_code_point (value_at lb_file lb);
  ea = each_code_point (value_at ea_file ea);
  wide_ambiguous = false;
}

-- the tables of the files, with the choice of width
abbrev pub tables_of_ucd : Ucd → TableValues
tables_of_ucd ucd = with_width (tables_of ucd.bidi.now ucd.brackets.now ucd.mirror.now ucd.lb.now ucd.ea.now) ucd.wide_ambiguous

-- the first fault of the first faulty file
abbrev pub fault_of_ucd : Ucd → Option UcdFault
fault_of_ucd ucd = fault_of ucd.bidi.now ucd.brackets.now ucd.mirror.now ucd.lb.now ucd.ea.now
