-- One more operation was taken, or one was refused.
use Rattle.std.proofs.Common.{◌+◌, ◌-◌, ◌<◌, length, refl, arith}
use Rattle.std.proofs.Math.Seq.{take-length}
use Rattle.live_document.proofs.Taking.{none_taken, taken_next, told_next, still_behind}
use Rattle.live_document.proofs.document.taking_all.take_each.Goals as goal

pub loop-number-init : goal.loop-number-init
loop-number-init c = record { taken = none_taken c.args.desk.now c.args.ops.now; told = λ _. refl; behind = take-length c.args.changes.now.items; some = λ no. cc; paid = λ p. (refl, record { spare = omega (arith, p.spare); room = omega (arith, p.room) }) }

pub loop-number-preserved : goal.loop-number-preserved
loop-number-preserved c =
    let l = c.loop-number in
    let t = c.take_next in
    let within : l.number < length c.args.ops.now = omega (arith, c.loop-number-test.true, l.auto.number-end) in
    let take = c.in_default.ensures.take in
    record {
      taken = taken_next c.args.desk.now l.desk t.new.desk c.args.ops.now l.number c.index-ops-number.result within c.index-ops-number.is l.invariant.taken take.ok take.accepted take.site take.spare;
      told = λ is. told_next c.args.desk.now.set l.desk.set t.new.desk.set c.args.ops.now l.number c.index-ops-number.result c.args.changes.now.items l.changes.items t.new.changes.items
          within c.index-ops-number.is l.invariant.taken.set take.ok (l.invariant.told (t.ensures.before is)) (t.ensures.told is);
      behind = still_behind t.new.told l.desk.set t.new.desk.set c.args.changes.now.items l.changes.items t.new.changes.items t.ensures.told t.ensures.untold l.invariant.behind;
      some = λ _. omega arith;
      paid = λ p.
          let before = l.invariant.paid p in
          t.ensures.paid before.0 (length c.args.ops.now - (l.number + 1)) (record { spare = omega (arith, before.1.spare, within); room = omega (arith, before.1.room, within) });
    }
