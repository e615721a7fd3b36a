-- What the edit made of the text is told.
use Rattle.std.specs.Str.{chars}
use Rattle.c_documents.proofs.Edited.{few_changed, end_of_typed, told_edit}
use Rattle.c_documents.proofs.document_edits.exchange_in.Goals as goal

pub tell_edit-requires-clause-few : goal.tell_edit-requires-clause-few
tell_edit-requires-clause-few c =
    let it = c.exchange_untold-answer in
    few_changed c.args.held.now.document.desk it.new.held.document.desk c.args.from c.args.to (chars c.args.text.now) c.args.out.now it.new.out it.new.size (it.ensures.ok c.if-answer-ne-OK.false).0

pub tell_edit-requires-clause-end : goal.tell_edit-requires-clause-end
tell_edit-requires-clause-end c =
    let it = c.exchange_untold-answer in
    end_of_typed c.args.held.now.document.desk it.new.held.document.desk c.args.from c.args.to (chars c.args.text.now) c.args.out.now it.new.out it.new.size (it.ensures.ok c.if-answer-ne-OK.false).0

pub returns-clause-ok : goal.returns-clause-ok
returns-clause-ok c =
    let it = c.exchange_untold-answer in
    let made = it.ensures.ok c.if-answer-ne-OK.false in
    let tell = c.tell_edit in
    λ _. told_edit c.args.held.now it.new.held tell.new.self c.args.from c.args.to (chars c.args.text.now) c.args.out.now it.new.out it.new.size made.0 made.1 tell.ensures.document tell.ensures.told
