-- What stays true in the loop of `open_all`.
use Rattle.std.proofs.Common.{◌≡◌, length, take}
use Rattle.std.specs.List.{AllZip}
use Rattle.std.specs.Prelude.{map as each}
use Rattle.desk_files.specs.Readers.{AreWorking}
use Rattle.command_line.proofs.files.open_all.Given as goal

abbrev pub invariant-loop-path : goal.invariant-loop-path
invariant-loop-path g l = record {
  count : length l.files.items ≡ l.path-index;
  opened : AllZip (λ path file. g.O.Opener.gives l.rt path.now (g.O.File.Read.remaining file.reader)) (take l.path-index l.paths) l.files.items;
  working : AreWorking (each (λ i. i.failed) l.files.items);
}
