-- One more operation was taken.
use Rattle.calling.proofs.InTurn.{taken_next}
use Rattle.calling.proofs.editor.hear.Goals as goal

pub loop-op-preserved : goal.loop-op-preserved
loop-op-preserved c =
    taken_next c.args.document.now.desk.set c.loop-op.document.desk.set c.take.new.self.desk.set c.args.ops.now c.loop-op.op-index c.op-item.result
    c.loop-op-test.true c.op-item.is c.loop-op.invariant c.in_ok-take.ensures.ok
