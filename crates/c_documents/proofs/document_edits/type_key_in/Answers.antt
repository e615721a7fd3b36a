-- It is put in the place of none.
use Rattle.std.proofs.Common.{length}
use Rattle.std.specs.Str.{chars}
use Rattle.c_desks.proofs.Interface.{typed_exchange}
use Rattle.c_documents.proofs.Edited.{typed_followed}
use Rattle.c_documents.proofs.document_edits.type_key_in.Goals as goal

pub returns-clause-ok : goal.returns-clause-ok
returns-clause-ok c =
    let it = c.type_one_in in
    let old = c.args.held.now.document.desk in
    λ done. (
      typed_exchange old it.new.held.document.desk c.args.from c.args.to c.args.ch (chars c.args.text.now) c.args.out.now it.new.out it.new.size c.requires.room c.requires.key (it.ensures.ok done),
      typed_followed old c.args.held.now.document it.new.held.document c.args.from c.args.to c.args.ch (length c.args.out.now) (chars c.args.text.now) c.requires.room c.requires.key (it.ensures.followed done),
    )
