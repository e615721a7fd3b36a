-- The message of the deletion stands at the front of the buffer.
use Rattle.std.proofs.Common.{◌≤◌, [], ◌∷◌, length, refl, arith}
use Rattle.op_codec.specs.Spelling.{spelling}
use Rattle.c_desks.proofs.Erased.{erased_most, erased_one}
use Rattle.c_desks.proofs.Messages.{copied_one}
use Rattle.c_desks.proofs.typing.erase_one_in.Goals as goal

pub encode_one-requires : goal.encode_one-requires
encode_one-requires c = omega (arith, erased_most c.args.desk.now.set c.erase_at.new.self.set c.args.place c.in-Ok.op c.in-Ok.ensures.op, c.requires.room)

pub returns-in-Ok-clause-ok : goal.returns-in-Ok-clause-ok
returns-in-Ok-clause-ok c =
    let old = c.args.desk.now in
    let new = c.erase_at.new.self in
    let op = c.in-Ok.op in
    let before = c.args.out.now in
    let after = c.encode_one.new.out in
    let told = c.encode_one.result in
    let room : length (spelling (op ∷ [])) ≤ length before = omega (arith, erased_most old.set new.set c.args.place op c.in-Ok.ensures.op, c.requires.room) in
    let copied = copied_one op op before after told refl room c.encode_one.ensures.written c.encode_one.ensures.size in
    λ _. erased_one old new c.args.place op before after told c.in-Ok.ensures.op c.in-Ok.ensures.accepted c.in-Ok.ensures.site c.in-Ok.ensures.spare copied
