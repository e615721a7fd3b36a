-- What stays true in the loop of `unpack`.
use Rattle.std.proofs.Common.{◌≡◌, take}
use Rattle.rga_runs.specs.Stretches.{elements_of}
use Rattle.rga_runs.proofs.stretch.Stretch.unpack.Given as goal

abbrev pub invariant-loop-k : goal.invariant-loop-k
invariant-loop-k l = take l.k l.unpacked.elements ≡ take l.k (elements_of l.chars l.self)
