-- The law by its lemmas.
use Rattle.caret.proofs.CaretAt.{among-grid}
use Rattle.caret.proofs.Positions.{place-in_window, a_row}
use Rattle.caret.proofs.laws.places_in_windows.Goals as goal

pub returns-clause-stretch : goal.returns-clause-stretch
returns-clause-stretch c = λ before rows after above below place h. place-in_window before rows after above below place h a_row

pub returns-clause-whole : goal.returns-clause-whole
returns-clause-whole c = λ grid place drawn. among-grid grid place (c.rows_follow.ensures.follow grid drawn) (c.rows_follow.ensures.some grid drawn)
