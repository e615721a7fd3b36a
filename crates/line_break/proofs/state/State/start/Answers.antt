-- Nothing stands before a text's first character.
use Rattle.std.proofs.Common.{refl, arith}
use Rattle.line_break.specs.States.{texts}
use Rattle.line_break.proofs.state.State.start.Goals as goal

pub returns : goal.returns
unfolding texts
returns c = record { within = omega arith; same = refl }
