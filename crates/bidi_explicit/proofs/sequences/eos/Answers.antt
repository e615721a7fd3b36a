-- An initiator that no PDI matches looks at the paragraph's level, any other last place at what is kept after it.
use Rattle.std.proofs.Common.{◌∙◌, refl}
use Rattle.bidi_explicit.proofs.sequences.eos.Goals as goal

pub returns-in-Initiator-None : goal.returns-in-Initiator-None
returns-in-Initiator-None c = c.direction_between.ensures ∙ rw (c.in-Initiator-None.is-0, c.in-Initiator-None.is-1, c.level_or-own.ensures) refl
