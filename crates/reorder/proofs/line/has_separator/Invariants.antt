-- It is told of the classes that were looked at.
use Rattle.std.proofs.Common.{◌≡◌, take}
use Rattle.std.specs.List.{list_any}
use Rattle.reorder.specs.LineLevels.{is_separator}
use Rattle.reorder.proofs.line.has_separator.Given as goal

abbrev pub invariant-loop-class : goal.invariant-loop-class
invariant-loop-class l = l.found ≡ list_any is_separator (take l.class-index l.classes)
