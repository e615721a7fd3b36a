-- The message of the deletion stands at the front of the buffer.
use Rattle.std.proofs.Common.{◌≤◌, [], ◌∷◌, length, refl, arith}
use Rattle.op_codec.specs.Spelling.{spelling}
use Rattle.c_desks.proofs.Interface.{erased_most, erased_one}
use Rattle.c_desks.proofs.Interface.{copied_one}
use Rattle.c_documents.proofs.document_edits.erase_one_in.Goals as goal

pub returns-in-Ok-clause-ok : goal.returns-in-Ok-clause-ok
returns-in-Ok-clause-ok c =
    let old = c.args.held.now.document.desk in
    let new = c.erase_at.new.self.desk in
    let place = c.args.place in
    let op = c.in-Ok.op in
    let before = c.args.out.now in
    let after = c.encode_one.new.out in
    let told = c.encode_one.result in
    let room : length (spelling (op ∷ [])) ≤ length before = omega (arith, erased_most old.set new.set place op c.in-Ok.ensures.op, c.requires.room) in
    let copied = copied_one op op before after told refl room c.encode_one.ensures.written c.encode_one.ensures.size in
    λ _. erased_one old new place op before after told c.in-Ok.ensures.op c.in-Ok.ensures.accepted c.in-Ok.ensures.site c.in-Ok.ensures.spare copied
