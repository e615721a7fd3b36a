-- The law by its lemmas.
use Rattle.paragraphs.proofs.Local.{cuts-before, cuts-after, meets-is}
use Rattle.paragraphs.proofs.laws.cuts_are_local.Goals as goal

pub returns-clause-before : goal.returns-clause-before
returns-clause-before c = cuts-before

pub returns-clause-after : goal.returns-clause-after
returns-clause-after c = cuts-after

pub returns-clause-seam : goal.returns-clause-seam
returns-clause-seam c = meets-is
