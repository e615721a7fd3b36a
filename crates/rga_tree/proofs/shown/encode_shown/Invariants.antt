-- What stays true in the loop of `encode_shown`.
use Rattle.std.proofs.Common.{◌≡◌, ◌*◌, ◌≤◌, take}
use Rattle.std.specs.Str.{IsUtf8}
use Rattle.rga_tree.proofs.Texts.{bytes_of}
use Rattle.rga_tree.proofs.shown.encode_shown.Given as goal

abbrev pub invariant-loop-element : goal.invariant-loop-element
invariant-loop-element l =
    (l.end ≤ 4 * l.element-index)
    × ((take l.end l.bytes ≡ bytes_of (take l.element-index l.row))
    × IsUtf8 (take l.end l.bytes))
