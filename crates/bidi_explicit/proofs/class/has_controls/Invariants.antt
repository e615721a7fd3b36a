-- It is told of the classes that were looked at.
use Rattle.std.proofs.Common.{◌≡◌, take}
use Rattle.std.specs.List.{list_any}
use Rattle.bidi_explicit.specs.Uniform.{is_control}
use Rattle.bidi_explicit.proofs.class.has_controls.Given as goal

abbrev pub invariant-loop-class : goal.invariant-loop-class
invariant-loop-class l = l.found ≡ list_any is_control (take l.class-index l.classes)
