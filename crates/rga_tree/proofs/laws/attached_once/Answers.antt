-- The goals of `attached_once` that are answered by hand.
use Rattle.rga_tree.specs.Walk.{walk}
use Rattle.bg_types.specs.declared.op.Place.TheVariants.{Root}
use Rattle.rga_tree.proofs.Listed.{Contains-listed, listed-contains}
use Rattle.rga_tree.proofs.AttachedWalk.{listed-attached, attached-listed, held_at}
use Rattle.rga_tree.proofs.WalkDistinct.{IsDistinct-walked}
use Rattle.rga_tree.proofs.laws.attached_once.Goals as goal

pub returns-clause-attached : goal.returns-clause-attached
returns-clause-attached c s well id = (λ at. Contains-listed id (walk s Root) (listed-attached s id well at), λ h. attached-listed s id (listed-contains id (walk s Root) h))

pub returns-clause-once : goal.returns-clause-once
returns-clause-once c = IsDistinct-walked

pub returns-clause-insertions : goal.returns-clause-insertions
returns-clause-insertions c s well e at = held_at s e at
