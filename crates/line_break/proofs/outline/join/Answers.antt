-- The last run gets longer, or the cluster is a run of its own.
use Rattle.std.proofs.Common.{◌+◌, List, ◌++◌, sym, ap, subst, arith}
use Rattle.line_break.specs.declared.run.ShapeRun.{ShapeRun}
use Rattle.line_break.specs.Runs.{AreJoined, EndsAt, if_some}
use Rattle.line_break.proofs.Joined.{AreJoined-push, AreJoined-longer, EndsAt-alone, EndsAt-longer}
use Rattle.line_break.proofs.outline.join.Goals as goal

pub lengthen-requires : goal.lengthen-requires
lengthen-requires c =
    let few = c.requires.last.few in
    omega (arith, c.requires.few)

pub returns-then-goes_on-clause-runs : goal.returns-then-goes_on-clause-runs
returns-then-goes_on-clause-runs c =
    let front = c.args.runs.now.items in
    let last = c.args.last.now in
    subst (λ (r : ShapeRun). AreJoined (front ++ if_some last) c.args.next (front ++ if_some r)) (sym c.lengthen.ensures)
    (AreJoined-longer last c.args.next c.requires.one c.requires.last (sym c.if-goes_on.ensures) front c.requires.first)

pub returns-then-goes_on-clause-some : goal.returns-then-goes_on-clause-some
returns-then-goes_on-clause-some c = let more = ap (λ (r : ShapeRun). r.count) c.lengthen.ensures in omega arith

pub returns-then-goes_on-clause-end : goal.returns-then-goes_on-clause-end
returns-then-goes_on-clause-end c =
    subst (λ (r : ShapeRun). EndsAt r (c.args.next.first_byte + c.args.next.bytes) (c.args.next.first_place + c.args.next.points)) (sym c.lengthen.ensures)
    (EndsAt-longer c.args.last.now c.args.next c.requires.one c.requires.last (sym c.if-goes_on.ensures) c.requires.some)

pub returns-clause-runs : goal.returns-clause-runs
returns-clause-runs c =
    let last = c.args.last.now in
    let before = c.args.runs.now.items ++ if_some last in
    subst (λ (l : List ShapeRun). AreJoined before c.args.next (l ++ if_some c.args.next)) (sym c.in_ok-close.ensures)
    (AreJoined-push c.args.runs.now.items last c.args.next c.requires.first c.requires.one (sym c.if-goes_on.ensures))

pub returns-clause-some : goal.returns-clause-some
returns-clause-some c = omega (arith, c.requires.one)

pub returns-clause-end : goal.returns-clause-end
returns-clause-end c = EndsAt-alone c.args.next c.requires.one c.requires.some
