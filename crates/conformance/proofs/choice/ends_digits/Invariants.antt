-- What stays true in the loop of `ends_digits`.
use Rattle.std.proofs.Common.{◌≡◌, drop}
use Rattle.conformance.specs.Choices.{ends_digits}
use Rattle.conformance.proofs.choice.ends_digits.Given as goal

abbrev pub invariant-loop-item : goal.invariant-loop-item
invariant-loop-item l = ends_digits (drop l.item-index l.items) ≡ ends_digits l.items
