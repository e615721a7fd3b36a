-- The goal of `meet` that is answered by hand.
use Rattle.desk_replica.proofs.taking.meet.Goals as goal

pub returns : goal.returns
returns g c = record {
  ok = c.merge.ensures.ok;
  count = c.merge.ensures.count;
  accepted = c.merge.ensures.accepted;
  fault = c.merge.ensures.fault;
  reused = c.merge.ensures.reused;
  nothing_new = c.merge.ensures.nothing_new;
  site = c.merge.ensures.site;
  spare = c.merge.ensures.spare;
  unpaid = c.merge.ensures.unpaid;
}
