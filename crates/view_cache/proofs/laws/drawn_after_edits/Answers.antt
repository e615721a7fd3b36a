-- The law by its lemma.
use Rattle.view_cache.proofs.Edits.{drawn-edited}
use Rattle.view_cache.proofs.laws.drawn_after_edits.Goals as goal

pub returns : goal.returns
returns c = drawn-edited
