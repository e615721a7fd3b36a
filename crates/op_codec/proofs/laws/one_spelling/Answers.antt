-- The goals of `one_spelling` that are answered by hand.
use Rattle.op_codec.proofs.Unique.{one_list}
use Rattle.op_codec.proofs.laws.one_spelling.Goals as goal

pub returns-clause-one_list : goal.returns-clause-one_list
returns-clause-one_list c = one_list
