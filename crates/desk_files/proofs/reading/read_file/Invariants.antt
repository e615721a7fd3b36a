-- What stays true in the loop of `read_file`.
use Rattle.std.proofs.Common.{◌≡◌, false}
use Rattle.desk_files.proofs.Feeding.{IsReadTo}
use Rattle.desk_files.proofs.reading.read_file.Given as goal

abbrev pub invariant-loop-given : goal.invariant-loop-given
invariant-loop-given g l = record {
  read : IsReadTo (g.R.Source.remaining l.fn.reader) (g.R.Source.remaining l.reader) l.stream l.left l.ops.items;
  working : g.R.Source.has_failed l.reader ≡ false;
}

abbrev pub decreases-loop-given : goal.decreases-loop-given
decreases-loop-given g l = l.left
