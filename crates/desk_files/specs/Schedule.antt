-- What a schedule's lines say, in a run over files of these operations. There are as many desks as files.
use Rattle.std.specs.Prelude.{◌≡◌, ◌≤◌, ◌==◌, ◌||◌, ◌&&◌, ◌+◌, ◌-◌, not, false, Bool, ℕ, List, [], ◌∷◌, ◌++◌, length, Option, Some, None, Result, Ok, Err, nat_le, bytes_eq, codes, slice_index_or, if◌then◌else◌}
use Rattle.std.specs.Str.Lines.{lines}
use Rattle.bg_types.specs.declared.op.OpView.{OpView}
use Rattle.desk_files.specs.declared.schedule_fault.ScheduleFault.{ScheduleFault}
use Rattle.desk_files.specs.declared.schedule_fault.ScheduleFault.TheVariants.{UnknownStep, WrongWords, BadNumber, NoSuchDesk, NoSuchFile, NoSuchOperation}
use Rattle.desk_files.specs.declared.schedule.step.RunStep.{RunStep}
use Rattle.desk_files.specs.declared.schedule.step.RunStep.TheVariants.{Take, Merge, Show}
use Rattle.desk_files.specs.declared.schedule.step.Numbered.{Numbered}
use Rattle.op_listing.specs.Words.{words}
use Rattle.op_listing.specs.Number.{number_in}
use Rattle.op_listing.specs.FirstFault.{AreFaultless, IsFirstFault}

-- ---- what there is, counted from 1

-- the operations of a file
abbrev pub file_at : List (List OpView) → ℕ → List OpView
file_at files file = slice_index_or files (file - 1) []

-- a number from 1 to `count`
abbrev pub is_among : ℕ → ℕ → Bool
is_among n count = nat_le 1 n && nat_le n count

-- ---- one line

-- the number that a word writes: 1 to 7 decimal digits
abbrev pub count_in : List ℕ → Option ℕ
count_in word = number_in 10 1 7 word

-- the step, or the fault of the first test that holds
abbrev pub tested : List (Bool × ScheduleFault) → RunStep → Result RunStep ScheduleFault
tested [] step = Ok step
tested (test ∷ later) step = if test.0 then Err test.1 else tested later step

abbrev pub take_of : List (List OpView) → Option ℕ → Option ℕ → Option ℕ → Result RunStep ScheduleFault
take_of files (Some desk) (Some file) (Some op) = tested (
    (not (is_among desk (length files)), NoSuchDesk)
    ∷ (not (is_among file (length files)), NoSuchFile)
    ∷ (not (is_among op (length (file_at files file))), NoSuchOperation)
    ∷ []) (Take desk file op)
take_of files (Some desk) (Some file) None = Err BadNumber
take_of files (Some desk) None op = Err BadNumber
take_of files None file op = Err BadNumber

abbrev pub merge_of : List (List OpView) → Option ℕ → Option ℕ → Result RunStep ScheduleFault
merge_of files (Some desk) (Some from) = tested (
    (not (is_among desk (length files)) || not (is_among from (length files)), NoSuchDesk)
    ∷ []) (Merge desk from)
merge_of files (Some desk) None = Err BadNumber
merge_of files None from = Err BadNumber

abbrev pub show_of : List (List OpView) → Option ℕ → Result RunStep ScheduleFault
show_of files (Some desk) = tested ((not (is_among desk (length files)), NoSuchDesk) ∷ []) (Show desk)
show_of files None = Err BadNumber

-- `take D F N`: desk D takes operation N of file F
abbrev pub take_in : List (List OpView) → List (List ℕ) → Result RunStep ScheduleFault
take_in files [] = Err WrongWords
take_in files (desk ∷ []) = Err WrongWords
take_in files (desk ∷ file ∷ []) = Err WrongWords
take_in files (desk ∷ file ∷ op ∷ []) = take_of files (count_in desk) (count_in file) (count_in op)
take_in files (desk ∷ file ∷ op ∷ more ∷ others) = Err WrongWords

-- `merge D E`: desk D takes all that desk E has
abbrev pub merge_in : List (List OpView) → List (List ℕ) → Result RunStep ScheduleFault
merge_in files [] = Err WrongWords
merge_in files (desk ∷ []) = Err WrongWords
merge_in files (desk ∷ from ∷ []) = merge_of files (count_in desk) (count_in from)
merge_in files (desk ∷ from ∷ more ∷ others) = Err WrongWords

-- `show D`: the text of desk D is drawn
abbrev pub show_in : List (List OpView) → List (List ℕ) → Result RunStep ScheduleFault
show_in files [] = Err WrongWords
show_in files (desk ∷ []) = show_of files (count_in desk)
show_in files (desk ∷ more ∷ others) = Err WrongWords

-- the step that a verb and the words after it write, or the first fault
abbrev pub step_in : List (List OpView) → List ℕ → List (List ℕ) → Result RunStep ScheduleFault
step_in files verb fields =
    if bytes_eq verb (codes "take") then take_in files fields
    else (if bytes_eq verb (codes "merge") then merge_in files fields
    else (if bytes_eq verb (codes "show") then show_in files fields
    else Err UnknownStep))

-- the line begins with `#`
abbrev pub is_comment : List ℕ → Bool
is_comment [] = false
is_comment (b ∷ line) = b == 35

abbrev pub words_say : List (List OpView) → List (List ℕ) → Option (Result RunStep ScheduleFault)
words_say files [] = None
words_say files (verb ∷ fields) = Some (step_in files verb fields)

-- what a line says: nothing, where it is a comment or has no words, else a step or a fault
abbrev pub line_says : List (List OpView) → List ℕ → Option (Result RunStep ScheduleFault)
line_says files line = if is_comment line then None else words_say files (words line)

-- ---- the lines of a schedule

abbrev pub fault_said : Option (Result RunStep ScheduleFault) → Option ScheduleFault
fault_said None = None
fault_said (Some (Ok step)) = None
fault_said (Some (Err fault)) = Some fault

abbrev pub step_said : Option (Result RunStep ScheduleFault) → Option RunStep
step_said None = None
step_said (Some (Ok step)) = Some step
step_said (Some (Err fault)) = None

-- the fault of a line, if it has one
abbrev pub fault_in : List (List OpView) → List ℕ → Option ScheduleFault
fault_in files line = fault_said (line_says files line)

-- the desks, the file and the operation of a step are there
abbrev pub IsStepOf : List (List OpView) → RunStep → Type 0
IsStepOf files (Take desk file op) = (1 ≤ desk) × (desk ≤ length files) × (1 ≤ file) × (file ≤ length files) × (1 ≤ op) × (op ≤ length (file_at files file))
IsStepOf files (Merge desk from) = (1 ≤ desk) × (desk ≤ length files) × (1 ≤ from) × (from ≤ length files)
IsStepOf files (Show desk) = (1 ≤ desk) × (desk ≤ length files)

-- the step with the number of its line
abbrev pub with_line : ℕ → Option RunStep → List Numbered
with_line line None = []
with_line line (Some step) = record { line = line; step = step } ∷ []

-- the steps of the lines from number n on, each with its line's number
abbrev pub steps_from : List (List OpView) → ℕ → List (List ℕ) → List Numbered
steps_from files n [] = []
steps_from files n (line ∷ rest) = with_line n (step_said (line_says files line)) ++ steps_from files (n + 1) rest

-- no line is faulty, and the lines say these steps in order, lines counted from 1. Lines end by LF or CR LF, and the last
-- may end without
pub record Schedules (files : List (List OpView)) (bytes : List ℕ) (steps : List Numbered) : Type 0 where
  pub faultless : AreFaultless (fault_in files) (lines bytes)
  pub said : steps ≡ steps_from files 1 (lines bytes)

-- line n, from 1, is the first faulty one, and this is its first fault
abbrev pub IsFaultyStep : List (List OpView) → List ℕ → (n : ℕ) → ScheduleFault → Type 0
IsFaultyStep files bytes n fault = IsFirstFault (fault_in files) (lines bytes) n fault
