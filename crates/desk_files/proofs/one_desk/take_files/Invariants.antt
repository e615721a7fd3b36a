-- What stays true in the loop of `take_files`.
use Rattle.std.proofs.Common.{◌≡◌, List}
use Rattle.bg_types.specs.declared.op.OpView.{OpView}
use Rattle.desk_files.specs.Files.{joined}
use Rattle.desk_files.specs.Taking.{HasTaken}
use Rattle.desk_files.proofs.Readings.{ReadTo}
use Rattle.desk_files.proofs.one_desk.take_files.Given as goal

abbrev pub invariant-loop-place : goal.invariant-loop-place
invariant-loop-place g l = record {
  lists : List (List OpView);
  read : ReadTo g.R.Source.remaining g.R.Source.has_failed l.fn.files l.files l.place lists;
  site : l.desk.site ≡ l.fn.desk.site;
  taken : HasTaken (joined lists) l.desk.set l.refused;
}
