-- What stays true in the loop of `end_trimmed`.
use Rattle.std.proofs.Common.{◌≡◌, ◌+◌, ◌≤◌, length, take}
use Rattle.std.specs.List.{suffix_len}
use Rattle.ucd_files.specs.Line.{is_among}
use Rattle.ucd_files.proofs.line.end_trimmed.Given as goal

abbrev pub invariant-loop-end : goal.invariant-loop-end
invariant-loop-end l =
    (l.end ≤ length l.bytes)
    × (l.end + suffix_len (is_among l.blanks) l.bytes ≡ length l.bytes + suffix_len (is_among l.blanks) (take l.end l.bytes))

abbrev pub decreases-loop-end : goal.decreases-loop-end
decreases-loop-end l = l.end
