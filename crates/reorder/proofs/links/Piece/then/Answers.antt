-- The goals of `then` that are answered by hand.
use Rattle.std.proofs.Common.{◌≡◌, false, rules}
use Rattle.reorder.specs.VisualList.{is_odd}
use Rattle.reorder.proofs.links.Piece.then.Goals as goal

pub returns-then-level-eq1-clause-links : goal.returns-then-level-eq1-clause-links
returns-then-level-eq1-clause-links c = rw c.if-level-eq1.true c.before-then-level-eq1.ensures.links

pub returns-then-level-eq1-clause-first : goal.returns-then-level-eq1-clause-first
returns-then-level-eq1-clause-first c = rw c.if-level-eq1.true c.before-then-level-eq1.ensures.first

pub returns-then-level-eq1-clause-last : goal.returns-then-level-eq1-clause-last
returns-then-level-eq1-clause-last c = rw c.if-level-eq1.true c.before-then-level-eq1.ensures.last

pub returns-else-level-eq1-clause-links : goal.returns-else-level-eq1-clause-links
returns-else-level-eq1-clause-links c =
    let even : is_odd c.args.level ≡ false = search rules in rw even c.before-else-level-eq1.ensures.links

pub returns-else-level-eq1-clause-first : goal.returns-else-level-eq1-clause-first
returns-else-level-eq1-clause-first c =
    let even : is_odd c.args.level ≡ false = search rules in rw even c.before-else-level-eq1.ensures.first

pub returns-else-level-eq1-clause-last : goal.returns-else-level-eq1-clause-last
returns-else-level-eq1-clause-last c =
    let even : is_odd c.args.level ≡ false = search rules in rw even c.before-else-level-eq1.ensures.last
