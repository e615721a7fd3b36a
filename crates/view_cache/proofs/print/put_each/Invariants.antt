-- The parts so far are written.
use Rattle.std.proofs.Common.{◌≡◌, false, take, flat_map}
use Rattle.std.specs.Io.KnownBytes.{Appends}
use Rattle.std.specs.Rc.{rc_slice_items}
use Rattle.view_cache.proofs.print.put_each.Given as goal

abbrev pub invariant-loop-part : goal.invariant-loop-part
invariant-loop-part g l = record {
  working : g.W.Sink.has_failed l.sink ≡ false;
  so_far : Appends (g.W.Sink.written l.fn.sink) (g.W.Sink.written l.sink) (flat_map rc_slice_items (take l.part-index l.parts));
}
