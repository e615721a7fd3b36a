-- What stays true in the loop of `items_of`.
use Rattle.std.proofs.Common.{◌≡◌, ◌++◌, drop}
use Rattle.conformance.specs.Choices.{items_of, items_behind}
use Rattle.conformance.proofs.choice.items_of.Given as goal

abbrev pub invariant-loop-first : goal.invariant-loop-first
invariant-loop-first l = l.items.items ++ items_behind l.tables l.last (drop l.first-index l.points) ≡ items_of l.tables l.points
