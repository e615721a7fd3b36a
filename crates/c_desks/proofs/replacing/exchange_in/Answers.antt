-- A character that is typed is put in the place of none.
use Rattle.std.proofs.Common.{length, subst}
use Rattle.std.specs.Str.{chars}
use Rattle.c_desks.specs.Desks.{HasRoomFor}
use Rattle.c_desks.proofs.Keystrokes.{typed_exchange}
use Rattle.c_desks.proofs.replacing.exchange_in.Goals as goal

pub returns-in-Some-Typed-clause-ok : goal.returns-in-Some-Typed-clause-ok
returns-in-Some-Typed-clause-ok c =
    let old = c.args.desk.now in
    let before = c.args.out.now in
    let it = c.type_one_in in
    let room = subst (λ n. HasRoomFor old c.args.from c.args.to n (length before)) c.code_points.ensures (c.refusal_of-answer.ensures.ok c.if-answer-ne-OK.false) in
    let key = rw c.in-Some-Typed.field-0-is at c.in-Some-Typed.ensures in
    let typed = rw c.in-Some-Typed.field-0-is at it.ensures.ok in
    λ done. typed_exchange old it.new.desk c.args.from c.args.to c.in-Some-Typed.ch (chars c.args.text.now) before it.new.out it.new.size room key (typed done)
