-- The first cluster, and those of the text after it.
use Rattle.std.proofs.Common.{◌∷◌, ◌++◌, length, ap, sym, ◌∙◌, arith, rules}
use Rattle.std.specs.List.{concat}
use Rattle.paragraphs.specs.Clusters.{clusters}
use Rattle.paragraphs.proofs.Afresh.{clusters-rest}
use Rattle.paragraphs.proofs.ClusterPlaces.{concat-clusters}
use Rattle.paragraphs.proofs.Slices.{IsBehind-on}
use Rattle.paragraphs.proofs.cluster.ClustersIterator.next.Goals as goal

pub range_from-rest-requires : goal.range_from-rest-requires
range_from-rest-requires c = λ _. c.self.invariant

pub overflow_sub-self : goal.overflow_sub-self
overflow_sub-self c =
    let inside = c.self.inside in
    let text = c.range_from-rest.result.now in
    let cluster = c.in_ok-cluster.cluster.now in
    let rest = c.as_str.result.now in
    let first = sym c.graphemes-graphemes.ensures.left ∙ c.in_ok-cluster.ensures.steps in
    let joined = sym (concat-clusters text c.range_from-rest.utf8) ∙ ap concat first ∙ ap (λ t. cluster ++ t) (sym c.as_str.ensures) in
    (IsBehind-on inside.text.now inside.byte text cluster rest c.range_from-rest.ensures.value joined c.as_str.utf8).within

pub invariant_of-self : goal.invariant_of-self
invariant_of-self c =
    let inside = c.self.inside in
    let text = c.range_from-rest.result.now in
    let cluster = c.in_ok-cluster.cluster.now in
    let rest = c.as_str.result.now in
    let first = sym c.graphemes-graphemes.ensures.left ∙ c.in_ok-cluster.ensures.steps in
    let joined = sym (concat-clusters text c.range_from-rest.utf8) ∙ ap concat first ∙ ap (λ t. cluster ++ t) (sym c.as_str.ensures) in
    (IsBehind-on inside.text.now inside.byte text cluster rest c.range_from-rest.ensures.value joined c.as_str.utf8).boundary

pub returns-clause-steps : goal.returns-clause-steps
returns-clause-steps c =
    let inside = c.self.inside in
    let text = c.range_from-rest.result.now in
    let cluster = c.in_ok-cluster.cluster.now in
    let rest = c.as_str.result.now in
    let first = sym c.graphemes-graphemes.ensures.left ∙ c.in_ok-cluster.ensures.steps in
    let joined = sym (concat-clusters text c.range_from-rest.utf8) ∙ ap concat first ∙ ap (λ t. cluster ++ t) (sym c.as_str.ensures) in
    let behind = IsBehind-on inside.text.now inside.byte text cluster rest c.range_from-rest.ensures.value joined c.as_str.utf8 in
    sym c.self.view_is ∙ ap clusters (sym c.range_from-rest.ensures.value)
    ∙ first ∙ ap (λ left. cluster ∷ left) (sym (ap clusters behind.left ∙ clusters-rest text cluster rest _ c.range_from-rest.utf8 c.as_str.utf8 first joined))

pub returns-clause-goes : goal.returns-clause-goes
returns-clause-goes c =
    let shorter = ap length (returns-clause-steps c) in
    search (rules, arith)
