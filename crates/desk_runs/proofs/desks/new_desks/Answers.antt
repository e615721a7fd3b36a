-- The goals of `new_desks` that are answered by hand.
use Rattle.desk_runs.proofs.FreshDesks.{fresh-more}
use Rattle.desk_runs.proofs.desks.new_desks.Goals as goal

pub loop-site-preserved : goal.loop-site-preserved
loop-site-preserved c = fresh-more c.loop-site.site c.loop-site.desks.items c.push.new.self.items c.new_desk.result c.loop-site.auto.site c.loop-site.invariant c.new_desk.ensures c.in_ok-push.ensures.items
