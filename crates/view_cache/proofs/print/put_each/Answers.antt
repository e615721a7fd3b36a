-- One part after the other.
use Rattle.std.proofs.Common.{ap, flat_map, subst}
use Rattle.std.proofs.KnownBytes.{Appends-nil}
use Rattle.std.specs.Io.KnownBytes.{Appends}
use Rattle.std.specs.Rc.{rc_slice_items}
use Rattle.bg_types.specs.Sink.{AppendsBeginning}
use Rattle.cell_grid.proofs.Interface.{on_err, pieces-on, pieces-cut_last, take-whole}
use Rattle.view_cache.proofs.print.put_each.Goals as goal

pub loop-part-init : goal.loop-part-init
loop-part-init g c = record { working = c.requires.working; so_far = Appends-nil (g.W.Sink.written c.args.sink.now) }

pub returns-in_err-put_all-clause-err : goal.returns-in_err-put_all-clause-err
returns-in_err-put_all-clause-err g c =
    let mid = g.W.Sink.written c.loop-part.sink in
    let new = g.W.Sink.written c.put_all.new.sink in
    on_err c.from_residual.result
    (pieces-cut_last rc_slice_items c.args.parts.now c.loop-part.part-index c.part-item.result c.part-item.result c.loop-part-test.true c.part-item.is
    (g.W.Sink.written c.args.sink.now) mid new c.loop-part.invariant.so_far (subst (AppendsBeginning mid new) c.as_slice.ensures.value c.in_err-put_all.ensures.err))

pub loop-part-preserved : goal.loop-part-preserved
loop-part-preserved g c =
    let mid = g.W.Sink.written c.loop-part.sink in
    let new = g.W.Sink.written c.put_all.new.sink in
    record {
      working = c.in_ok-put_all.ensures.failed;
      so_far =
          pieces-on rc_slice_items c.args.parts.now c.loop-part.part-index c.part-item.result c.part-item.result c.loop-part-test.true c.part-item.is
          (g.W.Sink.written c.args.sink.now) mid new c.loop-part.invariant.so_far (subst (Appends mid new) c.as_slice.ensures.value c.in_ok-put_all.ensures.ok);
    }

pub returns-clause-ok : goal.returns-clause-ok
returns-clause-ok g c =
    subst (Appends (g.W.Sink.written c.args.sink.now) (g.W.Sink.written c.loop-part.sink))
    (ap (flat_map rc_slice_items) (take-whole c.args.parts.now c.loop-part.part-index c.loop-part-test.false)) c.loop-part.invariant.so_far
