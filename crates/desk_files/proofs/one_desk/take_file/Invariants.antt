-- What stays true in the loop of `take_file`.
use Rattle.std.proofs.Common.{◌≡◌, false, List, ◌++◌}
use Rattle.bg_types.specs.declared.op.OpView.{OpView}
use Rattle.desk_files.specs.Taking.{HasTaken, HasTakenBut}
use Rattle.desk_files.proofs.Feeding.{IsReadTo}
use Rattle.desk_files.proofs.one_desk.take_file.Given as goal

abbrev pub invariant-loop-given : goal.invariant-loop-given
invariant-loop-given g l = record {
  ops : List OpView;
  read : IsReadTo (g.R.Source.remaining l.fn.reader) (g.R.Source.remaining l.reader) l.stream l.left ops;
  taken : (before : List OpView) → HasTaken before l.fn.desk.set l.fn.refused → HasTakenBut l.waiting.items (before ++ ops) l.desk.set l.refused;
  site : l.desk.site ≡ l.fn.desk.site;
  working : g.R.Source.has_failed l.reader ≡ false;
}

abbrev pub decreases-loop-given : goal.decreases-loop-given
decreases-loop-given g l = l.left
