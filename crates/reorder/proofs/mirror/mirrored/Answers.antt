-- The goals of `mirrored` that are answered by hand.
use Rattle.std.proofs.Common.{◌≡◌, refl, false, rules}
use Rattle.reorder.specs.VisualList.{is_odd}
use Rattle.reorder.proofs.mirror.mirrored.Goals as goal

pub returns-then-level-eq1 : goal.returns-then-level-eq1
returns-then-level-eq1 c = rw (c.unwrap_or.ensures, c.mirror.ensures, c.if-level-eq1.true) refl

pub returns-else-level-eq1 : goal.returns-else-level-eq1
returns-else-level-eq1 c = let even : is_odd c.args.level ≡ false = search rules in rw even refl
