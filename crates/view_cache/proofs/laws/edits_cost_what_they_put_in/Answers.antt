-- The law by its lemma.
use Rattle.view_cache.proofs.Edits.{edits-cost}
use Rattle.view_cache.proofs.laws.edits_cost_what_they_put_in.Goals as goal

pub returns : goal.returns
returns c = edits-cost
