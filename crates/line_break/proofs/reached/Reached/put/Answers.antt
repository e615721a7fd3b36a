-- The cluster behind those so far.
use Rattle.std.proofs.Common.{◌++◌, sym, ap, subst, arith}
use Rattle.line_break.specs.declared.run.ShapeRun.{ShapeRun}
use Rattle.line_break.specs.Reached.{span_ahead}
use Rattle.line_break.specs.Runs.{AreJoined, EndsAt, if_some}
use Rattle.line_break.proofs.Joined.{EndsAt-span}
use Rattle.line_break.proofs.reached.Reached.put.Goals as goal

pub join-requires-clause-last : goal.join-requires-clause-last
join-requires-clause-last c =
    subst (λ (n : ShapeRun). EndsAt c.args.self.now.last n.first_byte n.first_place) (sym c.of_one-next.ensures) c.requires.last

pub join-requires-clause-one : goal.join-requires-clause-one
join-requires-clause-one c = ap (λ (n : ShapeRun). n.count) c.of_one-next.ensures

pub join-requires-clause-some : goal.join-requires-clause-some
join-requires-clause-some c =
    let points = ap (λ (n : ShapeRun). n.points) c.of_one-next.ensures in
    omega (arith, c.requires.some)

pub join-requires-clause-few : goal.join-requires-clause-few
join-requires-clause-few c =
    let first = ap (λ (n : ShapeRun). n.first_place) c.of_one-next.ensures in
    omega (arith, c.requires.some, c.requires.points)

pub returns-clause-runs : goal.returns-clause-runs
returns-clause-runs c =
    subst (λ (n : ShapeRun). AreJoined (c.args.outline.now.runs.items ++ if_some c.args.self.now.last) n (c.join.new.runs.items ++ if_some c.join.new.last))
    c.of_one-next.ensures c.in_ok-join.ensures.runs

pub returns-clause-last : goal.returns-clause-last
returns-clause-last c =
    EndsAt-span c.join.new.last c.of_one-next.result (span_ahead c.args.self.now c.args.bytes c.args.points) c.args.cluster.now.columns c.of_one-next.ensures
    (omega arith) (omega arith) c.in_ok-join.ensures.end
