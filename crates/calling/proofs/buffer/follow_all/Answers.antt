-- One more change was made.
use Rattle.std.proofs.Common.{refl}
use Rattle.bg_types.specs.declared.change.Change.TheVariants.{Put}
use Rattle.calling.proofs.Following.{next_in_range, next_done}
use Rattle.calling.proofs.buffer.follow_all.Goals as goal

pub loop-n-init : goal.loop-n-init
loop-n-init c = refl

pub follow-requires : goal.follow-requires
follow-requires c = next_in_range c.args.buffer.now.items c.loop-n.buffer.items c.requires.0 c.args.changes.now c.loop-n.n (Put 0 0) c.loop-n-test.true c.requires.1 c.loop-n.invariant

pub loop-n-preserved : goal.loop-n-preserved
loop-n-preserved c =
    next_done c.args.buffer.now.items c.loop-n.buffer.items c.requires.0 c.args.changes.now c.loop-n.n (Put 0 0) c.loop-n-test.true c.requires.1 c.loop-n.invariant
    c.follow.new.buffer.items c.in_ok-follow.ensures
