-- The clusters of a text make it up.
use Rattle.std.proofs.Common.{length, ap, sym, ◌∙◌}
use Rattle.std.specs.List.{concat}
use Rattle.paragraphs.specs.Clusters.{clusters}
use Rattle.paragraphs.proofs.ClusterPlaces.{concat-clusters}
use Rattle.paragraphs.proofs.cluster.Clusters.bytes_left.Goals as goal

pub range_from-rest-requires : goal.range_from-rest-requires
range_from-rest-requires c = λ _. c.self.invariant

pub returns : goal.returns
returns c =
    let rest = c.range_from-rest.result.now in
    ap length (sym (concat-clusters rest c.range_from-rest.utf8) ∙ ap (λ t. concat (clusters t)) c.range_from-rest.ensures.value ∙ ap concat c.self.view_is)
