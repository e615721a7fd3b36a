-- What stays true in the loop of `push_shown`.
use Rattle.std.proofs.Common.{◌≡◌, ◌++◌, length}
use Rattle.std.specs.Prelude.{string_bytes}
use Rattle.rga_tree.proofs.Texts.{bytes_of}
use Rattle.rga_tree.proofs.shown.push_shown.Given as goal

abbrev pub invariant-loop-rest : goal.invariant-loop-rest
invariant-loop-rest l = string_bytes l.read ++ bytes_of l.rest ≡ string_bytes l.initial.read ++ bytes_of l.row

abbrev pub decreases-loop-rest : goal.decreases-loop-rest
decreases-loop-rest l = length l.rest
