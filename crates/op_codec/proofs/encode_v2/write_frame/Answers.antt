-- The goals of `write_frame` that are answered by hand.
use Rattle.std.proofs.Common.{List, ℕ, false, true, ◌≡◌, ◌+◌, ◌*◌, ◌<◌, ◌++◌, length, drop, refl, sym, ap, ◌∙◌, arith}
use Rattle.byteorder.specs.Endian.{big_bytes}
use Rattle.bg_types.specs.declared.op.OpView.{OpView}
use Rattle.bg_types.specs.declared.op.OpView.TheVariants.{Insert}
use Rattle.op_codec.specs.Spelling.{frame}
use Rattle.op_codec.specs.Gathering.{inserted_characters}
use Rattle.op_codec.proofs.Written.{length-frame_bytes, front_written, run_written}
use Rattle.op_codec.proofs.encode_v2.write_frame.Goals as goal

pub returns-in_ok-write_characters-in-Insert-clause-ok : goal.returns-in_ok-write_characters-in-Insert-clause-ok
returns-in_ok-write_characters-in-Insert-clause-ok c =
    let further = c.args.further.now in
    let read = c.in-Insert in
    let first_is = sym read.is ∙ c.view.ensures.value in
    let front_is = front_written c.write_u16.new.buf (17 + 4 * length further) read.id read.parent read.ch c.args.first.now (c.write_u16.ensures ∙ ap (λ (f : List ℕ). big_bytes 2 (17 + 4 * length further) ++ drop 2 f) c.insertion_frame-front.ensures) first_is in
    let some : 0 < length further = grind (arith, c.if-not-is_empty.ensures) in
    run_written c.args.out.now.items _ c.extend_from_slice.new.self.items c.write_characters.new.out.items c.args.first.now further front_is c.in_ok-extend_from_slice-in-Insert.ensures.items
    c.in_ok-write_characters-in-Insert.ensures.ok c.requires.insertions some

pub returns-in_err-write_characters-in-Insert-clause-room : goal.returns-in_err-write_characters-in-Insert-clause-room
returns-in_err-write_characters-in-Insert-clause-room c =
    let further = c.args.further.now in
    let read = c.in-Insert in
    let front_is = front_written c.write_u16.new.buf (17 + 4 * length further) read.id read.parent read.ch (Insert read.id read.parent read.ch) (c.write_u16.ensures ∙ ap (λ (f : List ℕ). big_bytes 2 (17 + 4 * length further) ++ drop 2 f) c.insertion_frame-front.ensures) refl in
    let front = ap (λ (s : List ℕ). length s) front_is in
    let pushed = c.in_ok-extend_from_slice-in-Insert.ensures in
    let sized = length-frame_bytes c.args.first.now (inserted_characters further) in
    let first = ap (λ (op : OpView). length (frame op)) read.ensures.value in
    λ room. let ok : false ≡ true = c.in_err-write_characters-in-Insert.ensures.room (omega (arith, room, front, pushed.len, pushed.capacity, sized, first)) in absurd cc
