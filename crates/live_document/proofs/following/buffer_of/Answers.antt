-- A text that is split anew.
use Rattle.live_document.proofs.Followed.{kept-anew}
use Rattle.live_document.proofs.following.buffer_of.Goals as goal

pub returns-in-Ok-clause-kept : goal.returns-in-Ok-clause-kept
returns-in-Ok-clause-kept c = λ width base least most. kept-anew c.args.tables.now width base c.in-Ok.buffer c.in-Ok.ensures.split c.in-Ok.ensures.nothing least most
