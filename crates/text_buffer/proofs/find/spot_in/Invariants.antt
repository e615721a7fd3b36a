-- The code points of the paragraphs that were passed, and those that are left.
use Rattle.std.proofs.Common.{◌≡◌, ◌<◌, ◌+◌, ◌-◌, length, take}
use Rattle.std.specs.List.{concat}
use Rattle.text_buffer.specs.Buffers.{bytes_in}
use Rattle.text_buffer.specs.Pieces.{points_in}
use Rattle.text_buffer.proofs.find.spot_in.Given as goal

abbrev pub invariant-loop-number : goal.invariant-loop-number
invariant-loop-number g l = record {
  there : l.number < length l.pieces;
  bytes : l.bytes ≡ bytes_in (concat (take l.number (points_in l.pieces)));
  passed : length (concat (take l.number (points_in l.pieces))) + l.offset ≡ l.place;
}

abbrev pub decreases-loop-number : goal.decreases-loop-number
decreases-loop-number g l = length l.pieces - l.number
