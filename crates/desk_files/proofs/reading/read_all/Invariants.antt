-- What stays true in the loop of `read_all`.
use Rattle.std.proofs.Common.{◌≡◌, length}
use Rattle.std.specs.Prelude.{map as each}
use Rattle.desk_files.proofs.Readings.{ReadTo}
use Rattle.desk_files.proofs.reading.read_all.Given as goal

abbrev pub invariant-loop-place : goal.invariant-loop-place
invariant-loop-place g l = record {
  read : ReadTo g.R.Source.remaining g.R.Source.has_failed l.fn.files l.files l.place (each (λ ops. ops.items) l.all.items);
  count : length l.all.items ≡ l.place;
}
