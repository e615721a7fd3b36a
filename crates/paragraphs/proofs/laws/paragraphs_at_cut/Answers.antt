-- The law by its lemma.
use Rattle.paragraphs.proofs.Local.{texts-append}
use Rattle.paragraphs.proofs.laws.paragraphs_at_cut.Goals as goal

pub returns : goal.returns
returns c = texts-append
