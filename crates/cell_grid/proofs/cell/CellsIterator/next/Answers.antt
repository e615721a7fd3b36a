-- The cell that is next, and those that are left then.
use Rattle.std.proofs.Common.{◌<◌, length, sym, ap, ◌∙◌, arith}
use Rattle.cell_grid.proofs.Coming.{more-left, more-tails, more-entries, more-right, none-more}
use Rattle.cell_grid.proofs.cell.CellsIterator.next.Goals as goal

pub returns-then-self-gt0-clause-steps : goal.returns-then-self-gt0-clause-steps
returns-then-self-gt0-clause-steps c =
    let s = c.self.inside in
    sym c.self.view_is ∙ more-left s.left s.tails s.number s.entries s.right (omega arith)

pub invariant_of-self-then-self-gt0-2 : goal.invariant_of-self-then-self-gt0-2
invariant_of-self-then-self-gt0-2 c =
    let some : 0 < c.self.inside.number = c.self.invariant.behind (omega arith) in
    record { behind = λ _. some; few = c.self.invariant.few }

pub returns-then-self-gt0-2-clause-steps : goal.returns-then-self-gt0-2-clause-steps
returns-then-self-gt0-2-clause-steps c =
    let s = c.self.inside in
    sym c.self.view_is ∙ more-tails s.left s.number s.entries s.right (omega arith) s.tails (omega arith)

pub invariant_of-self-in-Some : goal.invariant_of-self-in-Some
invariant_of-self-in-Some c =
    let count = c.in-Some.ensures.count in
    let few = c.self.invariant.few in
    record { behind = λ _. omega arith; few = omega arith }

pub returns-in-Some-clause-steps : goal.returns-in-Some-clause-steps
returns-in-Some-clause-steps c =
    let s = c.self.inside in
    sym c.self.view_is ∙ more-entries s.left s.number s.entries s.right (omega arith) s.tails (omega arith) c.next_with_columns.new.entries (c.in-Some.passed, c.in-Some.columns) c.in-Some.ensures

pub invariant_of-self-then-self-gt0-3 : goal.invariant_of-self-then-self-gt0-3
invariant_of-self-then-self-gt0-3 c =
    let none = ap length c.in_default.ensures.none in
    let few = c.self.invariant.few in
    record { behind = c.self.invariant.behind; few = omega arith }

pub returns-then-self-gt0-3-clause-steps : goal.returns-then-self-gt0-3-clause-steps
returns-then-self-gt0-3-clause-steps c =
    let s = c.self.inside in
    sym c.self.view_is ∙ more-right s.left s.number s.entries s.right (omega arith) s.tails (omega arith) c.next_with_columns.new.entries c.in_default.ensures (omega arith)

pub invariant_of-self-else-self-gt0-3 : goal.invariant_of-self-else-self-gt0-3
invariant_of-self-else-self-gt0-3 c =
    let none = ap length c.in_default.ensures.none in
    let few = c.self.invariant.few in
    record { behind = c.self.invariant.behind; few = omega arith }

pub returns-clause-steps : goal.returns-clause-steps
returns-clause-steps c =
    let s = c.self.inside in
    let none = none-more s.left s.number s.entries s.right (omega arith) s.tails (omega arith) c.next_with_columns.new.entries c.in_default.ensures (omega arith) in
    (sym c.self.view_is ∙ none.0, none.1)
