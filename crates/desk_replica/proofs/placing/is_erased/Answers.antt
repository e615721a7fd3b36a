-- The goals of `is_erased` that are answered by hand.
use Rattle.std.proofs.Common.{◌∙◌}
use Rattle.desk_replica.proofs.Looks.{mark-placed, mark-missing}
use Rattle.desk_replica.proofs.placing.is_erased.Goals as goal

pub returns-in-Some : goal.returns-in-Some
returns-in-Some g c = mark-placed (g.S.Sequence.content c.args.seq.now) c.args.held.now.held c.args.target c.in-Some.e c.requires.parted c.in-Some.ensures

pub returns-in-None : goal.returns-in-None
returns-in-None g c = c.erased.ensures ∙ mark-missing (g.S.Sequence.content c.args.seq.now) c.args.held.now.held c.args.target (g.met.S.Sequence.only_placed c.args.seq.now) c.in-None.ensures
