-- The word at a place is that of its code point.
use Rattle.line_break.proofs.PlainPlaces.{plain-word}
use Rattle.line_break.proofs.reached.is_plain_at.Goals as goal

pub returns-in-Some : goal.returns-in-Some
returns-in-Some c = λ on points same. plain-word points c.args.words.now c.args.place c.in-Some.word.now same c.in-Some.ensures.lookup.0 c.in-Some.ensures.lookup.1 on
