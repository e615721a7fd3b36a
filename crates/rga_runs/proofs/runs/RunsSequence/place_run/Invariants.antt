-- What stays true in the loop of `place_run`.
use Rattle.std.proofs.Common.{◌+◌, length}
use Rattle.std.specs.Str.{chars, IsUtf8}
use Rattle.std.specs.Str.Iter.{chars_rest}
use Rattle.rga_tree.specs.Row.{operations_of}
use Rattle.rga_tree.proofs.Interface.{IsUnderWay}
use Rattle.rga_runs.specs.Stretches.{elements_in}
use Rattle.rga_runs.specs.Indexed.{stretches_in}
use Rattle.rga_runs.proofs.runs.RunsSequence.place_run.Given as goal

abbrev pub invariant-loop-ch : goal.invariant-loop-ch
invariant-loop-ch l = record {
  utf8 : IsUtf8 (chars_rest l.left);
  under_way : IsUnderWay (operations_of (elements_in l.fn.self.characters.items (stretches_in l.fn.self.row))) (operations_of (elements_in l.self.characters.items (stretches_in l.self.row))) l.first
      (record { counter = l.counter + 1; site = l.first.site }) l.fn.parent l.parent (chars l.characters) (chars (chars_rest l.left)) l.fn.self.room l.self.room;
}

abbrev pub decreases-loop-ch : goal.decreases-loop-ch
decreases-loop-ch l = length (chars (chars_rest l.left))
