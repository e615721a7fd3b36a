-- What stays true in the loop of `value_named`.
use Rattle.std.proofs.Common.{◌≡◌, drop}
use Rattle.ucd_files.specs.Names.{named, name_table}
use Rattle.ucd_files.proofs.names.value_named.Given as goal

abbrev pub invariant-loop-spelled : goal.invariant-loop-spelled
invariant-loop-spelled g l = named (name_table (drop l.spelled-index l.table)) l.name ≡ named (name_table l.table) l.name
