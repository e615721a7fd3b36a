-- At an odd level the last cluster stands at the left.
use Rattle.std.proofs.Common.{◌-◌, cond, sym, ap}
use Rattle.std.proofs.lemmas.Bool.{eq-eqb, ne_eqb}
use Rattle.cell_grid.proofs.cluster_run.ClusterRun.cluster_from_left.Goals as goal

pub returns-then-self-eq1-clause-which : goal.returns-then-self-eq1-clause-which
returns-then-self-eq1-clause-which c = sym (ap (λ b. cond b (c.args.self.now.span.further - c.args.number) c.args.number) (eq-eqb _ 1 c.if-self-eq1.true))

pub returns-else-self-eq1-clause-which : goal.returns-else-self-eq1-clause-which
returns-else-self-eq1-clause-which c = sym (ap (λ b. cond b (c.args.self.now.span.further - c.args.number) c.args.number) (ne_eqb _ 1 c.if-self-eq1.false))
