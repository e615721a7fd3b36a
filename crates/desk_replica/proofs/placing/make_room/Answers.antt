-- The goal of `make_room` that is answered by hand.
use Rattle.std.proofs.Common.{◌≡◌, ap, arith}
use Rattle.std.specs.Prelude.{max}
use Rattle.std.specs.FinMap as map
use Rattle.std.proofs.lemmas.Result.{on_ok_weaker}
use Rattle.bg_types.specs.OperationSet.{OperationSet}
use Rattle.desk_replica.proofs.placing.make_room.Goals as goal

pub returns-clause-ok : goal.returns-clause-ok
returns-clause-ok g c =
    on_ok_weaker c.reserve-2.result (λ (room : c.reserve-2.new.self.room ≡ max c.args.held.now.room c.args.n). record {
      placed = omega (arith, c.in_ok-reserve.ensures.ok, c.insertion_count.ensures, ap (λ (s : OperationSet). map.len s.ins) c.reserve-2.ensures.held);
      held = omega (arith, room);
    }) c.reserve-2.ensures.ok
