-- The goals of `edits` that are answered by hand.
use Rattle.bg_types.proofs.Edits.{edit_once, edit_both, edit_parts}
use Rattle.bg_types.proofs.laws.edits.Goals as goal

pub returns-clause-one : goal.returns-clause-one
returns-clause-one c = edit_once

pub returns-clause-both : goal.returns-clause-both
returns-clause-both c = λ old new one more. (edit_parts old new one more, (λ w. edit_both old w.0 new one more w.1.0 w.1.1))
