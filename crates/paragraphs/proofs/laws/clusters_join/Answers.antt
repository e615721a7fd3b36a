-- The laws by their lemmas.
use Rattle.paragraphs.proofs.ClusterPlaces.{clusters-utf8, concat-clusters, some-clusters}
use Rattle.paragraphs.proofs.laws.clusters_join.Goals as goal

pub returns-clause-joined : goal.returns-clause-joined
returns-clause-joined c = concat-clusters

pub returns-clause-utf8 : goal.returns-clause-utf8
returns-clause-utf8 c = clusters-utf8

pub returns-clause-some : goal.returns-clause-some
returns-clause-some c = some-clusters
