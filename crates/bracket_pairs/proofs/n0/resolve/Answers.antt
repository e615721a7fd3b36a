-- The goals of `resolve` that are answered by hand.
use Rattle.std.proofs.Common.{◌∙◌, refl, rules}
use Rattle.bracket_pairs.specs.N0.{n0}
use Rattle.bracket_pairs.proofs.n0.resolve.Goals as goal

pub returns-in_err-openings-clause-memory : goal.returns-in_err-openings-clause-memory
returns-in_err-openings-clause-memory c = search rules

pub returns-clause-ok : goal.returns-clause-ok
unfolding n0
returns-clause-ok c =
    c.resolve_pairs.ensures
    ∙ rw (c.of_level.ensures, c.of.ensures, c.deref.ensures.value, c.in_ok-openings.ensures.pairs) refl
