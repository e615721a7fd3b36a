-- The cursor is before the line's start, and so before its end.
use Rattle.line_break.proofs.Reading.{IsBefore-later}
use Rattle.line_break.proofs.open.Open.end_before.Goals as goal

pub returns-else-self-clause-cursor : goal.returns-else-self-clause-cursor
returns-else-self-clause-cursor c = IsBefore-later _ _ _ _ c.requires.cursor c.requires.order
