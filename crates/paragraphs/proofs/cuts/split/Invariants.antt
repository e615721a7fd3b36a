-- The text is split up to the place.
use Rattle.std.proofs.Common.{length}
use Rattle.paragraphs.proofs.Splitting.{IsSplitTo}
use Rattle.paragraphs.proofs.cuts.split.Given as goal

abbrev pub invariant-loop-before : goal.invariant-loop-before
invariant-loop-before l = IsSplitTo l.tables l.text l.rest l.paragraphs.items l.first_byte l.first_place l.place

abbrev pub decreases-loop-before : goal.decreases-loop-before
decreases-loop-before l = length l.rest
