-- Nothing is passed.
use Rattle.std.proofs.Common.{ℕ, subst}
use Rattle.cell_grid.specs.Parts.{left_of, ArePassed}
use Rattle.cell_grid.proofs.Cutting.{passed-same}
use Rattle.cell_grid.proofs.part.Cursor.begin.Goals as goal

pub returns-then-self-eq0-clause-same : goal.returns-then-self-eq0-clause-same
returns-then-self-eq0-clause-same c =
    subst (λ (n : ℕ). ArePassed n (left_of c.args.runs.now c.args.self.now) (left_of c.args.runs.now c.go_on.new.self)) c.if-self-eq0.true c.go_on.ensures.passed

pub returns-else-self-eq0-clause-same : goal.returns-else-self-eq0-clause-same
returns-else-self-eq0-clause-same c = passed-same (left_of c.args.runs.now c.args.self.now)
