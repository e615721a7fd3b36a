-- For how many paragraphs the shows of a run keep the rows.
use Rattle.std.specs.Prelude.{ℕ, ◌+◌, ◌*◌, Bool, false, List, length, filter, sum_by, min, max}
use Rattle.std.specs.Global.{Vec}
use denote.Enum.Bare.{sameb}
use Rattle.bg_types.specs.contracts.class.Bidi.{the_type}
use Rattle.bg_types.specs.declared.class.Bidi.TheVariants.{B}
use Rattle.bg_types.specs.declared.op.OpView.{OpView}
use Rattle.bg_types.specs.declared.op.OpView.TheVariants.{Insert, Erase}
use Rattle.ucd_files.specs.Tables.{TableValues, bidi_of}
use Rattle.desk_runs.specs.declared.replaying.setting.Setting.{Setting}

-- an operation puts in a character that can end a paragraph (UAX #9, P1)
abbrev pub puts_separator : TableValues → OpView → Bool
puts_separator tables (Insert id parent ch) = sameb the_type (bidi_of tables ch) B
puts_separator tables (Erase target) = false

-- how many of these do
abbrev pub separators : TableValues → List OpView → ℕ
separators tables ops = length (filter (puts_separator tables) ops)

-- as many paragraphs as the texts of all desks, one a file, can have together: at each desk one more than all separators; but 1 to
-- 1,000,000
abbrev pub room_in : Setting → ℕ
room_in setting = max 1 (min ((1 + sum_by (λ (ops : Vec OpView). separators setting.tables.now ops.items) setting.files.now) * length setting.files.now) 1_000_000)
