-- The position so far is the one after that many steps, and the text's rows are as they were.
use Rattle.std.proofs.Common.{◌≡◌}
use Rattle.caret.specs.Positions.{position_at, IsPositionOf}
use Rattle.live_document.specs.Documents.{whole_rows}
use Rattle.calling.specs.Seen.{position_right}
use Rattle.calling.proofs.editor.walk_right.Given as goal

abbrev pub invariant-loop : goal.invariant-loop
invariant-loop l =
    (l.position ≡ position_right (whole_rows l.fn.document) l.counter (position_at (whole_rows l.fn.document) l.fn.place))
    × IsPositionOf (whole_rows l.document) l.position
    × (whole_rows l.document ≡ whole_rows l.fn.document)
    × (l.document.desk ≡ l.fn.document.desk)
