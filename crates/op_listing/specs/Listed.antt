-- Which operations a listing lists, or what is wrong with it first: the definition Files, listed.
use Rattle.std.specs.Prelude.{◌≡◌, ℕ, List, option_to_list}
use Rattle.std.specs.List.{flat_map}
use Rattle.std.specs.Str.Lines.{lines}
use Rattle.bg_types.specs.declared.op.OpView.{OpView}
use Rattle.op_listing.specs.declared.line_fault.LineFault.{LineFault}
use Rattle.op_listing.specs.Words.{words}
use Rattle.op_listing.specs.FirstFault.{AreFaultless, IsFirstFault}
use Rattle.op_listing.specs.Line.{operation_in, line_fault}

-- the operation of a line, or nothing for a line without words
abbrev pub line_operations : List ℕ → List OpView
line_operations line = option_to_list (operation_in (words line))

-- no line is faulty, and the lines with words write these operations in order. Lines end in LF or CR LF, and the last
-- may end in neither
pub record Lists (bytes : List ℕ) (ops : List OpView) : Type 0 where
  pub faultless : AreFaultless line_fault (lines bytes)
  pub written : ops ≡ flat_map line_operations (lines bytes)

-- line n, from 1, is the first faulty one, and this is its first fault
abbrev pub IsFaultyLine : List ℕ → ℕ → LineFault → Type 0
IsFaultyLine bytes n fault = IsFirstFault line_fault (lines bytes) n fault
