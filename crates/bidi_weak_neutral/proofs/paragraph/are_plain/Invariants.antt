-- It is told of the classes that were looked at.
use Rattle.std.proofs.Common.{◌≡◌, take}
use Rattle.std.specs.List.{list_all}
use Rattle.bidi_weak_neutral.specs.Classes.{is_plain}
use Rattle.bidi_weak_neutral.proofs.paragraph.are_plain.Given as goal

abbrev pub invariant-loop-class : goal.invariant-loop-class
invariant-loop-class l = l.plain ≡ list_all is_plain (take l.class-index l.classes)
