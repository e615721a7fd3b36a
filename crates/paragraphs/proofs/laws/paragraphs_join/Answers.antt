-- The laws by their lemmas.
use Rattle.paragraphs.proofs.Splitting.{joined-paragraphs, paragraphs-stand}
use Rattle.paragraphs.proofs.Following.{some-paragraphs, follow-paragraphs}
use Rattle.paragraphs.proofs.laws.paragraphs_join.Goals as goal

pub returns-clause-joined : goal.returns-clause-joined
returns-clause-joined c = joined-paragraphs

pub returns-clause-some : goal.returns-clause-some
returns-clause-some c = some-paragraphs

pub returns-clause-slices : goal.returns-clause-slices
returns-clause-slices c = paragraphs-stand

pub returns-clause-follow : goal.returns-clause-follow
returns-clause-follow c = λ tables text u. follow-paragraphs text u tables
