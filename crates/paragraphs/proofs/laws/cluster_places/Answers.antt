-- The laws by their lemmas.
use Rattle.paragraphs.proofs.ClusterPlaces.{concat-cluster_code_points, sum-cluster_sizes, some-cluster_sizes, first_place-spans, end_place-spans}
use Rattle.paragraphs.proofs.laws.cluster_places.Goals as goal

pub returns-clause-joined : goal.returns-clause-joined
returns-clause-joined c = concat-cluster_code_points

pub returns-clause-sum : goal.returns-clause-sum
returns-clause-sum c = sum-cluster_sizes

pub returns-clause-some : goal.returns-clause-some
returns-clause-some c = some-cluster_sizes

pub returns-clause-start : goal.returns-clause-start
returns-clause-start c = first_place-spans

pub returns-clause-end : goal.returns-clause-end
returns-clause-end c = end_place-spans
