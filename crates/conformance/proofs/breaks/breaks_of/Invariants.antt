-- What stays true in the loop of `breaks_of`.
use Rattle.std.proofs.Common.{◌≡◌, ◌++◌, drop}
use Rattle.std.specs.List.{flat_map}
use Rattle.conformance.specs.Came.{paragraph_breaks, breaks_of}
use Rattle.conformance.proofs.breaks.breaks_of.Given as goal

abbrev pub invariant-loop-para : goal.invariant-loop-para
invariant-loop-para l = l.breaks.items ++ flat_map (paragraph_breaks l.tables) (drop l.para-index l.para-items) ≡ breaks_of l.tables l.text
