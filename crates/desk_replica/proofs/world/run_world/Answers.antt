-- The goals of `run_world` that are answered by hand.
use Rattle.desk_replica.proofs.WorldSteps.{from_fresh}
use Rattle.desk_replica.proofs.world.run_world.Goals as goal

pub returns-clause-world : goal.returns-clause-world
returns-clause-world g c =
    (from_fresh c.args.sites.now c.in_ok-desks.desks.items c.deref_mut.result.now c.do_steps.new.desks c.in_ok-made.made.items c.do_steps.new.made.items c.args.steps.now c.in_ok-replies.replies.items c.in_ok-desks.desks.len
    c.in_ok-desks.ensures c.deref_mut.ensures.value c.in_ok-desks.desks.ok.0 c.in_ok-made.ensures.items c.in_ok-replies.ensures).0

pub returns-clause-sites : goal.returns-clause-sites
returns-clause-sites g c =
    (from_fresh c.args.sites.now c.in_ok-desks.desks.items c.deref_mut.result.now c.do_steps.new.desks c.in_ok-made.made.items c.do_steps.new.made.items c.args.steps.now c.in_ok-replies.replies.items c.in_ok-desks.desks.len
    c.in_ok-desks.ensures c.deref_mut.ensures.value c.in_ok-desks.desks.ok.0 c.in_ok-made.ensures.items c.in_ok-replies.ensures).1
