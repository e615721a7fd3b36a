-- What stays true in the loop of `encode_shown`.
use Rattle.std.proofs.Common.{◌≡◌, ◌*◌, ◌≤◌, take}
use Rattle.std.specs.Str.{IsUtf8}
use Rattle.rga_tree.proofs.Interface.{bytes_of}
use Rattle.rga_runs.specs.Stretches.{elements_of}
use Rattle.rga_runs.proofs.stretch.Stretch.encode_shown.Given as goal

abbrev pub invariant-loop-k : goal.invariant-loop-k
invariant-loop-k l =
    (l.end ≤ 4 * l.k)
    × ((take l.end l.bytes ≡ bytes_of (take l.k (elements_of l.chars l.self)))
    × IsUtf8 (take l.end l.bytes))
