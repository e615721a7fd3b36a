-- The goals of `are_breaks` that are answered by hand.
use Rattle.std.specs.Cmp.{booleans_Decides}
use Rattle.std.proofs.lemmas.Slice.Eq.{slice_eq-Decides}
use Rattle.conformance.proofs.engine.are_breaks.Goals as goal

pub returns : goal.returns
returns c = slice_eq-Decides booleans_Decides c.args.wanted.now c.args.came.now c.eq.result c.eq.ensures
