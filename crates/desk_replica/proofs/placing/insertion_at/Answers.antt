-- The goals of `insertion_at` that are answered by hand.
use Rattle.std.proofs.Common.{ap, Some, ◌∙◌}
use Rattle.desk_replica.proofs.Looks.{kept-placed, kept-missing, may_follow}
use Rattle.desk_replica.proofs.placing.insertion_at.Goals as goal

pub insertion_of-requires : goal.insertion_of-requires
insertion_of-requires g c = may_follow (g.S.Sequence.content c.args.seq.now) c.args.id c.in-Some.e (g.met.S.Sequence.well_formed c.args.seq.now) c.in-Some.ensures

pub returns-in-Some : goal.returns-in-Some
returns-in-Some g c = ap (λ o. Some o) c.insertion_of.ensures ∙ kept-placed (g.S.Sequence.content c.args.seq.now) c.args.held.now.held c.args.id c.in-Some.e c.in-Some.ensures

pub returns-in-None : goal.returns-in-None
returns-in-None g c = c.insertion.ensures ∙ kept-missing (g.S.Sequence.content c.args.seq.now) c.args.held.now.held c.args.id c.in-None.ensures
