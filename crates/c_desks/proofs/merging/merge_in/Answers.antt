-- What the core answers is how they met.
use Rattle.c_desks.proofs.merging.merge_in.Goals as goal

pub returns : goal.returns
returns c =
    let met = c.merge.ensures in (
      c.merge.result,
      record {
        ok = met.ok;
        count = met.count;
        accepted = met.accepted;
        fault = met.fault;
        reused = met.reused;
        nothing_new = met.nothing_new;
        site = met.site;
        spare = met.spare;
        unpaid = met.unpaid;
      },
      c.merge_number.ensures,
    )
