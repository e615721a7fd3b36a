-- So many clusters are passed: the runs that are left have the others.
use Rattle.std.proofs.Common.{◌≡◌, ◌-◌, ◌<◌, ◌≤◌, length, drop}
use Rattle.std.specs.List.{All}
use Rattle.cell_grid.specs.Parts.{all_spans, IsWithin, left_of}
use Rattle.cell_grid.proofs.part.Cursor.extent.Given as goal

abbrev pub decreases-loop-reader : goal.decreases-loop-reader
decreases-loop-reader l = l.left

abbrev pub invariant-loop-reader : goal.invariant-loop-reader
invariant-loop-reader l = record {
  passed : all_spans (left_of l.runs l.reader) ≡ drop (l.fn.clusters - l.left) (all_spans (left_of l.runs l.fn.self));
  some : 0 < l.left;
  most : l.left ≤ l.fn.clusters;
  ahead : l.left ≤ length (all_spans (left_of l.runs l.reader));
  begun : 0 < l.reader.first.count;
  within : All IsWithin (left_of l.runs l.reader);
}
