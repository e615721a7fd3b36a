-- The goals of `reserve` that are answered by hand.
use Rattle.std.proofs.Common.{sym, subst, arith}
use Rattle.rga_tree.specs.KeepsWalk.{KeepsWalk}
use Rattle.rga_tree.proofs.plain.PlainSequence.reserve.Goals as goal

pub invariant_of-self : goal.invariant_of-self
invariant_of-self c = record { keeps_walk = subst KeepsWalk (sym c.reserve.ensures.items) c.args.self.now.keeps_walk }

pub returns-clause-ok : goal.returns-clause-ok
returns-clause-ok c = omega (arith, c.in_ok-reserve.ensures.ok)
