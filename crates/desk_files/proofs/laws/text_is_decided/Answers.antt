-- The goals of `text_is_decided` that are answered by hand.
use Rattle.desk_files.proofs.TextDecided.{text_decided}
use Rattle.desk_files.proofs.laws.text_is_decided.Goals as goal

pub returns : goal.returns
returns c = λ files old new failed result. text_decided files (c.one_outcome.ensures files) old new failed result
