-- The goals of `visual_order` that are answered by hand.
use Rattle.reorder.proofs.VisualOrderLaw.{visual-order}
use Rattle.reorder.proofs.laws.visual_order.Goals as goal

pub returns : goal.returns
returns c = visual-order
