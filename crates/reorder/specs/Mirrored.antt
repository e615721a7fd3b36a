-- The character that is shown: UAX #9, L4.
use Rattle.std.specs.Prelude.{ℕ, if◌then◌else◌, unwrap_or}
use Rattle.unicode_tables.specs.Tables.{TableValues, mirror_of}
use Rattle.reorder.specs.VisualList.{is_odd}

-- at an odd level the mirror of a character that the mirroring file lists, else the character
abbrev pub mirrored_of : TableValues → ℕ → ℕ → ℕ
mirrored_of tables c level = if is_odd level then unwrap_or (mirror_of tables c) c else c
