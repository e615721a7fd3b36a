-- The goals of `merge_at` that are answered by hand.
use Rattle.std.proofs.Common.{Ok}
use Rattle.desk_replica.specs.DeskSets.{sets_of}
use Rattle.desk_replica.proofs.DeskLists.{met_self, met_itself, merged_sets, merged_count, merged_accepted, merged_left, merged_sites, left_refused}
use Rattle.desk_replica.proofs.taking.merge_at.Goals as goal

pub returns-clause-ok : goal.returns-clause-ok
returns-clause-ok g c = merged_sets c.args.desks.now c.meet_another.new.desks c.args.desk c.args.from c.requires.desk c.requires.from c.meet_another.result c.meet_another.ensures

pub returns-clause-count : goal.returns-clause-count
returns-clause-count g c = merged_count c.args.desks.now c.meet_another.new.desks c.args.desk c.args.from c.requires.desk c.requires.from c.meet_another.result c.meet_another.ensures

pub returns-clause-accepted : goal.returns-clause-accepted
returns-clause-accepted g c = merged_accepted c.args.desks.now c.meet_another.new.desks c.args.desk c.args.from c.requires.desk c.requires.from c.meet_another.result c.meet_another.ensures

pub returns-clause-left : goal.returns-clause-left
returns-clause-left g c = merged_left c.args.desks.now c.meet_another.new.desks c.args.desk c.args.from c.requires.desk c.requires.from c.meet_another.result c.meet_another.ensures

pub returns-clause-fault : goal.returns-clause-fault
returns-clause-fault g c =
    left_refused (sets_of c.args.desks.now) (sets_of c.meet_another.new.desks) c.args.desk c.args.from c.meet_another.result
    (merged_left c.args.desks.now c.meet_another.new.desks c.args.desk c.args.from c.requires.desk c.requires.from c.meet_another.result c.meet_another.ensures)

pub returns-clause-sites : goal.returns-clause-sites
returns-clause-sites g c = merged_sites c.args.desks.now c.meet_another.new.desks c.args.desk c.args.from c.requires.desk c.requires.from c.meet_another.result c.meet_another.ensures

pub returns-clause-met : goal.returns-clause-met
returns-clause-met g c = c.meet_another.ensures

pub returns-then-desk-from-clause-ok : goal.returns-then-desk-from-clause-ok
returns-then-desk-from-clause-ok g c =
    let desks = c.args.desks.now in
    merged_sets desks desks c.args.desk c.args.from c.requires.desk c.requires.from (Ok 0)
    (met_itself desks c.args.desk c.args.from c.index-desks-desk.result (Ok 0) c.requires.desk c.if-desk-from.true (met_self _ c.op_count-kept.ensures.limited))

pub returns-then-desk-from-clause-count : goal.returns-then-desk-from-clause-count
returns-then-desk-from-clause-count g c =
    let desks = c.args.desks.now in
    merged_count desks desks c.args.desk c.args.from c.requires.desk c.requires.from (Ok 0)
    (met_itself desks c.args.desk c.args.from c.index-desks-desk.result (Ok 0) c.requires.desk c.if-desk-from.true (met_self _ c.op_count-kept.ensures.limited))

pub returns-then-desk-from-clause-accepted : goal.returns-then-desk-from-clause-accepted
returns-then-desk-from-clause-accepted g c =
    let desks = c.args.desks.now in
    merged_accepted desks desks c.args.desk c.args.from c.requires.desk c.requires.from (Ok 0)
    (met_itself desks c.args.desk c.args.from c.index-desks-desk.result (Ok 0) c.requires.desk c.if-desk-from.true (met_self _ c.op_count-kept.ensures.limited))

pub returns-then-desk-from-clause-met : goal.returns-then-desk-from-clause-met
returns-then-desk-from-clause-met g c =
    met_itself c.args.desks.now c.args.desk c.args.from c.index-desks-desk.result (Ok 0) c.requires.desk c.if-desk-from.true (met_self _ c.op_count-kept.ensures.limited)

pub returns-clause-itself : goal.returns-clause-itself
returns-clause-itself g c = λ same. absurd (c.if-desk-from.false same)
