-- The steps of a run without a schedule.
use Rattle.std.specs.Prelude.{ℕ, ◌+◌, ◌-◌, ◌%◌, List, ◌++◌, length, map as each}
use Rattle.std.specs.List.{flat_map, range_with_len}
use Rattle.bg_types.specs.declared.op.OpView.{OpView}
use Rattle.desk_files.specs.declared.schedule.step.RunStep.{RunStep}
use Rattle.desk_files.specs.declared.schedule.step.RunStep.TheVariants.{Take, Show}
use Rattle.desk_files.specs.declared.schedule.step.Numbered.{Numbered}
use Rattle.desk_files.specs.Schedule.{file_at}
use Rattle.desk_runs.specs.Steps.{at_line}

-- a step of no line
abbrev pub unnumbered : RunStep → Numbered
unnumbered step = at_line 0 step

-- a desk takes all operations of a file, in order
abbrev pub file_takes : List (List OpView) → ℕ → ℕ → List Numbered
file_takes files desk file = each (λ op. unnumbered (Take desk file op)) (range_with_len 1 (length (file_at files file)))

-- a desk takes all of these files, in order
abbrev pub files_takes : List (List OpView) → ℕ → List ℕ → List Numbered
files_takes files desk numbers = flat_map (file_takes files desk) numbers

-- of `count` files the one so far after that of the desk's own number, wrapping round
abbrev pub nth_turn : (count desk behind : ℕ) → ℕ
nth_turn count desk behind = (desk - 1 + behind) % count + 1

-- the numbers of `count` files from the desk's own on, wrapping round
abbrev pub turn : (count desk : ℕ) → List ℕ
turn count desk = each (nth_turn count desk) (range_with_len 0 count)

-- each desk takes all files, one desk after the other
abbrev pub all_takes : List (List OpView) → List Numbered
all_takes files = flat_map (λ desk. files_takes files desk (turn (length files) desk)) (range_with_len 1 (length files))

-- then each desk is shown
abbrev pub all_shows : List (List OpView) → List Numbered
all_shows files = each (λ desk. unnumbered (Show desk)) (range_with_len 1 (length files))

abbrev pub round : List (List OpView) → List Numbered
round files = all_takes files ++ all_shows files
