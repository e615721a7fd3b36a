-- The law by its lemmas.
use Rattle.cell_grid.proofs.Following.{paragraphs-follow, some-rows}
use Rattle.cell_grid.proofs.Windows.{past-follow}
use Rattle.cell_grid.proofs.laws.rows_of_paragraphs.Goals as goal

pub returns-clause-follow : goal.returns-clause-follow
returns-clause-follow c = λ tables width base byte place paras wide. paragraphs-follow c.laws_below.ensures tables width wide base byte place paras

pub returns-clause-behind : goal.returns-clause-behind
returns-clause-behind c = past-follow

pub returns-clause-some : goal.returns-clause-some
returns-clause-some c = λ tables width base paras some. some-rows c.laws_below.ensures tables width base paras some
