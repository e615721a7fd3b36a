-- What stays true in the loop of `openings`.
use Rattle.bracket_pairs.specs.Pairs.{roles}
use Rattle.bracket_pairs.proofs.SearchSteps.{IsSearched}
use Rattle.bracket_pairs.proofs.search.openings.Given as goal

abbrev pub invariant-loop-place : goal.invariant-loop-place
invariant-loop-place l = IsSearched (roles l.tables l.chars l.types) l.place l.stack.items l.openings.items
