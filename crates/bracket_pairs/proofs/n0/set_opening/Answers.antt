-- The goals of `set_opening` that are answered by hand.
use Rattle.std.proofs.Common.{◌∙◌, sym, arith, rules}
use denote.Enum.Bare.{same_true}
use Rattle.bg_types.specs.contracts.class.Bidi.{the_type}
use Rattle.bracket_pairs.specs.Runs.{Has}
use Rattle.bracket_pairs.proofs.Remembered.{run-has}
use Rattle.bracket_pairs.proofs.n0.set_opening.Goals as goal

pub returns-then-eq-clause-types : goal.returns-then-eq-clause-types
returns-then-eq-clause-types c =
    let h : Has c.args.run c.args.place c.args.class = record { from = omega arith; to = omega arith; of = same_true the_type (search rules) _ _ (sym c.eq.ensures ∙ c.if-eq.true) } in
    rw (← h.of) (sym (run-has c.args.before_w1.now c.args.types.now c.args.run c.args.place c.requires.same c.requires.run h.from h.to))
