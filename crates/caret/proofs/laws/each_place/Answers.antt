-- The goals of `each_place` that are answered by hand.
use Rattle.caret.proofs.PlaceLaw.{each_place}
use Rattle.caret.proofs.laws.each_place.Goals as goal

pub returns : goal.returns
returns c = λ grid p drawn. each_place grid p (c.rows_follow.ensures.some grid drawn) (c.rows_follow.ensures.follow grid drawn) (c.places_once.ensures grid drawn)
