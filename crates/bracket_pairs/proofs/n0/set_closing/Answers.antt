-- The goals of `set_closing` that are answered by hand.
use Rattle.std.proofs.Common.{sym, arith}
use Rattle.bracket_pairs.proofs.Remembered.{run-has, run-stays}
use Rattle.bracket_pairs.proofs.n0.set_closing.Goals as goal

pub returns-then-place-run-clause-types : goal.returns-then-place-run-clause-types
returns-then-place-run-clause-types c =
    sym (run-has c.args.before_w1.now c.args.types.now c.args.run c.args.place c.requires.same c.requires.run c.requires.behind (omega arith))

pub returns-clause-run : goal.returns-clause-run
returns-clause-run c =
    rw c.set_bracket.ensures.types (run-stays c.args.run.class c.args.before_w1.now c.args.types.now c.args.run c.args.place c.requires.run (omega arith) c.requires.within)
