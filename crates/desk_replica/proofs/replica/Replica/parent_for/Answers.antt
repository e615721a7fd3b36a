-- The goals of `parent_for` that are answered by hand.
use Rattle.std.proofs.Common.{◌<◌, sym, ap, arith}
use Rattle.rga_tree.specs.TextOf.{visible_ids}
use Rattle.desk_replica.specs.Typing.{parent_at}
use Rattle.desk_replica.proofs.Typing.{parent_is}
use Rattle.desk_replica.proofs.replica.Replica.parent_for.Goals as goal

pub returns-then-place-eq0-clause-parent : goal.returns-then-place-eq0-clause-parent
returns-then-place-eq0-clause-parent g c = sym (ap (parent_at (visible_ids c.args.self.now.set)) c.if-place-eq0.true)

pub returns-clause-parent : goal.returns-clause-parent
returns-clause-parent g c =
    let no = c.if-place-eq0.false in
    let some : 0 < c.args.place = omega arith in
    parent_is (visible_ids c.args.self.now.set) c.args.place c.id_at.result some c.id_at.ensures.value
