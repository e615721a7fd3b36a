-- The goals of `compare_breaks` that are answered by hand.
use Rattle.conformance.proofs.engine.compare_breaks.Goals as goal

pub returns-clause-differs : goal.returns-clause-differs
returns-clause-differs c =
    λ choice differs by_choice.
    (rw (c.deref-4.ensures.value, c.in_ok-came.ensures, c.deref-3.ensures.value, c.as_str-text.ensures.value)
    at (c.in_ok-choice.ensures.none c.in-None.is choice)) by_choice
