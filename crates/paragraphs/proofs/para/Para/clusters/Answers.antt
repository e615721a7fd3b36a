-- The clusters of the paragraph's text.
use Rattle.std.proofs.Common.{◌<◌, length, ap, ◌∙◌}
use Rattle.std.proofs.lemmas.List.Elements.{All-same}
use Rattle.std.specs.List.{concat}
use Rattle.std.specs.Str.{IsUtf8}
use Rattle.paragraphs.proofs.ClusterPlaces.{clusters-utf8, concat-clusters, some-clusters}
use Rattle.paragraphs.proofs.para.Para.clusters.Goals as goal

pub returns-clause-joined : goal.returns-clause-joined
returns-clause-joined c = ap concat c.of.ensures ∙ concat-clusters c.text.result.now c.text.utf8 ∙ c.text.ensures

pub returns-clause-some : goal.returns-clause-some
returns-clause-some c = All-same (λ cluster. 0 < length cluster) _ _ c.of.ensures (some-clusters c.text.result.now)

pub returns-clause-utf8 : goal.returns-clause-utf8
returns-clause-utf8 c = All-same IsUtf8 _ _ c.of.ensures (clusters-utf8 c.text.result.now c.text.utf8)
