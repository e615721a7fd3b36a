-- What stays true in the loop of `text_of`.
use Rattle.std.proofs.Common.{◌≡◌, take}
use Rattle.std.specs.Prelude.{string_bytes}
use Rattle.rga_tree.specs.Spot.{joined}
use Rattle.rga_tree.proofs.Texts.{bytes_of}
use Rattle.rga_tree.proofs.sequence.text_of.Given as goal

abbrev pub invariant-loop-p : goal.invariant-loop-p
invariant-loop-p g l = string_bytes l.read ≡ bytes_of (joined (take l.p (g.S.Sequence.parts l.seq)))
