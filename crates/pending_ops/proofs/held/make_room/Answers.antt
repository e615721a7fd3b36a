-- The goals of `make_room` that are answered by hand.
use Rattle.std.proofs.Common.{refl, ap, length, arith}
use Rattle.std.proofs.lemmas.Result.{IfOk-from_err, on_ok_weaker}
use Rattle.pending_ops.proofs.held.make_room.Goals as goal

pub overflow_add-len : goal.overflow_add-len
overflow_add-len c = omega (arith, c.requires, c.len.ensures.small)

pub overflow_add-len-2 : goal.overflow_add-len-2
overflow_add-len-2 c = omega (arith, c.requires, c.len-2.ensures.small)

pub returns-in_err-reserve : goal.returns-in_err-reserve
returns-in_err-reserve c = record {
  slots = c.reserve.ensures.entries;
  firsts = refl;
  released = refl;
  erased = refl;
  queue = refl;
  ok = IfOk-from_err c.from_residual.result _ c.from_residual.ensures.0;
  kept = λ m room. (omega (arith, room.0, c.reserve.ensures.room.0), room.1, room.2, omega (arith, room.3, ap length c.reserve.ensures.entries), room.4);
}

pub returns-in_err-reserve-2 : goal.returns-in_err-reserve-2
returns-in_err-reserve-2 c = record {
  slots = c.reserve.ensures.entries;
  firsts = c.reserve-2.ensures.entries;
  released = refl;
  erased = refl;
  queue = refl;
  ok = IfOk-from_err c.from_residual-in_err-reserve-2.result _ c.from_residual-in_err-reserve-2.ensures.0;
  kept = λ m room. (
    omega (arith, room.0, c.reserve.ensures.room.0),
    omega (arith, room.1, c.reserve-2.ensures.room.0),
    room.2,
    omega (arith, room.3, ap length c.reserve.ensures.entries),
    omega (arith, room.4, ap length c.reserve-2.ensures.entries),
  );
}

pub returns-in_err-reserve-3 : goal.returns-in_err-reserve-3
returns-in_err-reserve-3 c = record {
  slots = c.reserve.ensures.entries;
  firsts = c.reserve-2.ensures.entries;
  released = c.reserve-3.ensures.keys;
  erased = refl;
  queue = refl;
  ok = IfOk-from_err c.from_residual-in_err-reserve-3.result _ c.from_residual-in_err-reserve-3.ensures.0;
  kept = λ m room. (
    omega (arith, room.0, c.reserve.ensures.room.0),
    omega (arith, room.1, c.reserve-2.ensures.room.0),
    room.2,
    omega (arith, room.3, ap length c.reserve.ensures.entries),
    omega (arith, room.4, ap length c.reserve-2.ensures.entries, ap length c.reserve-3.ensures.keys, c.reserve-3.ensures.room.0),
  );
}

pub returns-in_err-reserve-4 : goal.returns-in_err-reserve-4
returns-in_err-reserve-4 c = record {
  slots = c.reserve.ensures.entries;
  firsts = c.reserve-2.ensures.entries;
  released = c.reserve-3.ensures.keys;
  erased = c.reserve-4.ensures.keys;
  queue = refl;
  ok = IfOk-from_err c.from_residual-in_err-reserve-4.result _ c.from_residual-in_err-reserve-4.ensures.0;
  kept = λ m room. (
    omega (arith, room.0, c.reserve.ensures.room.0),
    omega (arith, room.1, c.reserve-2.ensures.room.0),
    omega (arith, room.2, c.reserve-4.ensures.room.0),
    omega (arith, room.3, ap length c.reserve.ensures.entries),
    omega (arith, room.4, ap length c.reserve-2.ensures.entries, ap length c.reserve-3.ensures.keys, c.reserve-3.ensures.room.0),
  );
}

pub returns : goal.returns
returns c = record {
  slots = c.reserve.ensures.entries;
  firsts = c.reserve-2.ensures.entries;
  released = c.reserve-3.ensures.keys;
  erased = c.reserve-4.ensures.keys;
  queue = c.reserve-5.ensures.items;
  ok = on_ok_weaker c.reserve-5.result (λ room. (
    omega (arith, c.in_ok-reserve.ensures.ok),
    omega (arith, c.in_ok-reserve-2.ensures.ok),
    omega (arith, c.in_ok-reserve-4.ensures.ok),
    omega (arith, room, c.len-2.ensures.len),
    omega (arith, c.in_ok-reserve-3.ensures.ok, c.len.ensures.len, ap length c.reserve-2.ensures.entries, ap length c.reserve-3.ensures.keys),
  )) c.reserve-5.ensures.ok;
  kept = λ m room. (
    omega (arith, room.0, c.reserve.ensures.room.0),
    omega (arith, room.1, c.reserve-2.ensures.room.0),
    omega (arith, room.2, c.reserve-4.ensures.room.0),
    omega (arith, room.3, ap length c.reserve.ensures.entries, c.reserve-5.ensures.capacity),
    omega (arith, room.4, ap length c.reserve-2.ensures.entries, ap length c.reserve-3.ensures.keys, c.reserve-3.ensures.room.0),
  );
}
