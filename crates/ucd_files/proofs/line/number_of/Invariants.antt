-- What stays true in the loop of `number_of`.
use Rattle.std.proofs.Common.{◌≡◌, ◌==◌, ◌≤◌, count_by, take}
use Rattle.ucd_files.proofs.line.number_of.Given as goal

abbrev pub invariant-loop-b : goal.invariant-loop-b
invariant-loop-b l = (l.number ≡ count_by (λ b. b == l.at) (take l.b-index l.bytes)) × (l.number ≤ l.b-index)
