-- A plain character that a plain one follows, and the clusters after it.
use Rattle.std.proofs.Common.{drop, get_or, ◌+◌, sym, ap, ◌∙◌, arith}
use Rattle.std.specs.Char.{len_utf8}
use Rattle.paragraphs.specs.Clusters.{clusters, is_plain}
use Rattle.paragraphs.proofs.Alone.{points-of_clusters, IsCharBoundary-past_first, clusters-past}
use Rattle.paragraphs.proofs.Plain.{plain-some, plain-same, plain-first, plain-two}
use Rattle.paragraphs.proofs.Slices.{drop-on}
use Rattle.paragraphs.proofs.cluster.Clusters.next_plain.Goals as goal

pub range_from-rest-requires : goal.range_from-rest-requires
range_from-rest-requires c = λ _. c.self.invariant

pub bounds-points-0 : goal.bounds-points-0
bounds-points-0 c = plain-some c.args.points.now c.requires.plain

pub plain_len-bytes-requires : goal.plain_len-bytes-requires
plain_len-bytes-requires c = ap is_plain (c.index-points-0.is ∙ plain-same c.args.points.now _ c.requires.plain) ∙ c.requires.plain

pub invariant_of-self : goal.invariant_of-self
invariant_of-self c =
    let inside = c.self.inside in
    let rest = c.range_from-rest.result.now in
    IsCharBoundary-past_first inside.text.now inside.byte rest c.args.points.now _ (get_or c.args.points.now 0 0) c.plain_len-bytes.result c.self.invariant.0 c.range_from-rest.ensures.value c.range_from-rest.utf8
    (sym c.self.view_is ∙ ap clusters (sym c.range_from-rest.ensures.value)) c.requires.points (plain-first c.args.points.now c.requires.plain) (c.plain_len-bytes.ensures ∙ ap len_utf8 (c.index-points-0.is ∙ plain-same c.args.points.now _ c.requires.plain))

pub overflow_add-self : goal.overflow_add-self
overflow_add-self c =
    let inside = c.self.inside in
    let rest = c.range_from-rest.result.now in
    let within =
    IsCharBoundary-past_first inside.text.now inside.byte rest c.args.points.now _ (get_or c.args.points.now 0 0) c.plain_len-bytes.result c.self.invariant.0 c.range_from-rest.ensures.value c.range_from-rest.utf8
    (sym c.self.view_is ∙ ap clusters (sym c.range_from-rest.ensures.value)) c.requires.points (plain-first c.args.points.now c.requires.plain) (c.plain_len-bytes.ensures ∙ ap len_utf8 (c.index-points-0.is ∙ plain-same c.args.points.now _ c.requires.plain)) in
    omega (arith, within.0)

pub returns-clause-taken : goal.returns-clause-taken
returns-clause-taken c =
    let inside = c.self.inside in
    let rest = c.range_from-rest.result.now in
    let value = c.range_from-rest.ensures.value in
    let left = sym c.self.view_is ∙ ap clusters (sym value) in
    left
    ∙ clusters-past rest c.args.points.now (get_or c.args.points.now 0 0) c.range_from-rest.utf8
    (points-of_clusters rest c.args.points.now _ c.range_from-rest.utf8 left c.requires.points) (plain-first c.args.points.now c.requires.plain)
    c.plain_len-bytes.result (drop (inside.byte + c.plain_len-bytes.result) inside.text.now) (c.plain_len-bytes.ensures ∙ ap len_utf8 (c.index-points-0.is ∙ plain-same c.args.points.now _ c.requires.plain)) (drop-on inside.text.now inside.byte rest c.plain_len-bytes.result value)
    (plain-two c.args.points.now c.requires.plain c.requires.next)

pub returns-clause-bytes : goal.returns-clause-bytes
returns-clause-bytes c = c.plain_len-bytes.ensures ∙ ap len_utf8 (c.index-points-0.is ∙ plain-same c.args.points.now _ c.requires.plain)
