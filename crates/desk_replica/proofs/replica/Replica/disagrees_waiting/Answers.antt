-- The goals of `disagrees_waiting` that are answered by hand.
use Rattle.std.proofs.Common.{◌≤◌, length, subst, arith}
use Rattle.std.proofs.lemmas.List.{take_all}
use Rattle.std.specs.Prelude.{All}
use Rattle.std.proofs.lemmas.List.Elements.{All-more}
use Rattle.bg_types.specs.OperationSet.{MayJoin}
use Rattle.desk_replica.specs.Placement.{waiting_in}
use Rattle.desk_replica.proofs.Disagreeing.{agree_waiting, disagree_waiting, waiting_at}
use Rattle.desk_replica.proofs.replica.Replica.disagrees_waiting.Goals as goal

pub returns-then-reuses-clause-yes : goal.returns-then-reuses-clause-yes
returns-then-reuses-clause-yes g c =
    disagree_waiting c.args.self.now.set c.args.held.now c.loop-j.j c.nth.result c.count_waiting-j-end.ensures.each_once c.nth.ensures.listed (omega (arith, c.loop-j-test.true, c.count_waiting-j-end.ensures.count)) c.if-reuses.ensures.yes

pub loop-j-preserved : goal.loop-j-preserved
loop-j-preserved g c =
    let s = c.args.self.now.set in
    let w = c.args.held.now in
    let op = c.nth.result in
    let at = waiting_at w c.loop-j.j op c.nth.ensures.listed (omega (arith, c.loop-j-test.true, c.count_waiting-j-end.ensures.count)) in
    All-more (MayJoin s) (waiting_in w) c.loop-j.j op at.0 c.loop-j.invariant (subst (MayJoin s) at.1 c.if-reuses.ensures.no)

pub returns-clause-no : goal.returns-clause-no
returns-clause-no g c =
    let w = c.args.held.now in
    let s = c.args.self.now.set in
    let lists = c.count_waiting-j-end.ensures.each_once in
    let done = c.loop-j-test.false in
    let long : length (waiting_in w) ≤ c.loop-j.j = omega (arith, lists.all, c.count_waiting-j-end.ensures.count) in
    agree_waiting s w lists (subst (All (MayJoin s)) (take_all c.loop-j.j (waiting_in w) long) c.loop-j.invariant)
