-- What stays true in the loop of `put_back`.
use Rattle.std.proofs.Common.{◌≡◌, drop}
use Rattle.bidi_weak_neutral.specs.Levels.{put_back}
use Rattle.bidi_weak_neutral.proofs.paragraph.put_back.Given as goal

abbrev pub invariant-loop-number : goal.invariant-loop-number
invariant-loop-number l =
    put_back l.tables l.points l.embedded.places l.levels (drop l.number l.embedded.sequences)
    ≡ put_back l.tables l.points l.embedded.places l.initial.levels l.embedded.sequences
