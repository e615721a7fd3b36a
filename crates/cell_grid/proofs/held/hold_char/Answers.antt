-- There is room for a character's four bytes.
use Rattle.std.proofs.Common.{◌+◌, ◌≤◌, length, encode_utf8, refl, arith}
use Rattle.std.proofs.lemmas.Str.{length-encode, len_utf8_bounds}
use Rattle.cell_grid.proofs.HeldEnd.{begins-longer}
use Rattle.cell_grid.proofs.Writing.{on_err}
use Rattle.cell_grid.proofs.held.hold_char.Goals as goal

pub returns-in_err-make_room-clause-err : goal.returns-in_err-make_room-clause-err
returns-in_err-make_room-clause-err g c = on_err c.from_residual.result (begins-longer _ _ c.args.held.now.bytes (encode_utf8 c.args.c) _ c.in_err-make_room.ensures.err refl)

pub push-requires : goal.push-requires
push-requires g c =
    let n = length-encode c.args.c in
    let most = len_utf8_bounds c.args.c in
    let fits : length c.make_room.new.held.bytes + length (encode_utf8 c.args.c) ≤ 256 = omega (arith, n, most, c.in_ok-make_room.ensures.room) in
    (omega arith, fits)
