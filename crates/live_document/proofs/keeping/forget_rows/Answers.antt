-- Where nothing is kept, it is of any width and base.
use Rattle.live_document.proofs.Beside.{bare-none, laid-none}
use Rattle.live_document.proofs.Forgotten.{held-none}
use Rattle.live_document.proofs.keeping.forget_rows.Goals as goal

pub returns-clause-bare : goal.returns-clause-bare
returns-clause-bare c = bare-none c.args.buffer.now c.forget_but.new.self c.forget_but.ensures.paragraphs c.forget_but.ensures.kept

pub returns-clause-none : goal.returns-clause-none
returns-clause-none c = λ tables width base. laid-none tables width base c.args.buffer.now c.forget_but.new.self c.forget_but.ensures.kept

pub returns-clause-held : goal.returns-clause-held
returns-clause-held c = held-none c.args.buffer.now c.forget_but.new.self c.forget_but.ensures.kept
