-- A character that stands alone, and the clusters after it.
use Rattle.std.proofs.Common.{◌≡◌, true, take, drop, ◌+◌, sym, ap, ◌∙◌, arith}
use Rattle.unicode_segmentation.specs.Grapheme.{is_grapheme_break}
use Rattle.paragraphs.specs.Clusters.{clusters}
use Rattle.paragraphs.proofs.Alone.{points-first, points-some, points-of_clusters, IsCharBoundary-past_first, clusters-past}
use Rattle.paragraphs.proofs.Slices.{drop-on}
use Rattle.paragraphs.proofs.Plain.{plain-part, last-parts}
use Rattle.paragraphs.proofs.cluster.Clusters.next_alone.Goals as goal
use Rattle.paragraphs.proofs.cluster.Clusters.next_alone.Goals.{After-len_utf8, else-points-gt1-via-then-points-gt1+else-not-words, then-words-offset0, else-words-offset0, else-points-gt1-via-else-points-gt1}

-- it stands before a plain one, or is the last
broken : (c : After-len_utf8) → is_grapheme_break true (take 1 c.args.points.now) (drop 1 c.args.points.now) ≡ true
broken c = elim c.else-points-gt1.branch [
  | else-points-gt1-via-then-points-gt1+else-not-words w ↦ elim w.if-words-offset0.branch [
    | then-words-offset0 v ↦
        plain-part c.args.points.now c.args.words.now _ _ c.requires.words (let more = w.if-points-gt1.true in omega arith)
        v.if-words-offset0.true (sym v.value-is ∙ w.if-not-words.false)
    | else-words-offset0 v ↦ absurd (let off = sym v.value-is ∙ w.if-not-words.false in cc)
  ]
  | else-points-gt1-via-else-points-gt1 w ↦
      last-parts c.args.points.now (points-some c.args.points.now c.in_ok-c.field-0.now c.in_ok-c.ensures.value) (let last = w.if-points-gt1.false in omega arith)
]

pub range_from-rest-requires : goal.range_from-rest-requires
range_from-rest-requires c = λ _. c.self.invariant

pub invariant_of-self : goal.invariant_of-self
invariant_of-self c =
    let inside = c.self.inside in
    let rest = c.range_from-rest.result.now in
    IsCharBoundary-past_first inside.text.now inside.byte rest c.args.points.now _ c.in_ok-c.field-0.now c.len_utf8.result c.self.invariant.0 c.range_from-rest.ensures.value c.range_from-rest.utf8
    (sym c.self.view_is ∙ ap clusters (sym c.range_from-rest.ensures.value)) c.requires.points c.in_ok-c.ensures.value c.len_utf8.ensures.value

pub overflow_add-self : goal.overflow_add-self
overflow_add-self c =
    let inside = c.self.inside in
    let rest = c.range_from-rest.result.now in
    let within =
    IsCharBoundary-past_first inside.text.now inside.byte rest c.args.points.now _ c.in_ok-c.field-0.now c.len_utf8.result c.self.invariant.0 c.range_from-rest.ensures.value c.range_from-rest.utf8
    (sym c.self.view_is ∙ ap clusters (sym c.range_from-rest.ensures.value)) c.requires.points c.in_ok-c.ensures.value c.len_utf8.ensures.value in
    omega (arith, within.0)

pub returns-clause-taken : goal.returns-clause-taken
returns-clause-taken c =
    let inside = c.self.inside in
    let rest = c.range_from-rest.result.now in
    let value = c.range_from-rest.ensures.value in
    let left = sym c.self.view_is ∙ ap clusters (sym value) in
    left
    ∙ clusters-past rest c.args.points.now c.in_ok-c.field-0.now c.range_from-rest.utf8
    (points-of_clusters rest c.args.points.now _ c.range_from-rest.utf8 left c.requires.points) c.in_ok-c.ensures.value
    c.len_utf8.result (drop (inside.byte + c.len_utf8.result) inside.text.now) c.len_utf8.ensures.value (drop-on inside.text.now inside.byte rest c.len_utf8.result value)
    (broken (goal.at.returns-clause-taken c).After-len_utf8)

pub returns-clause-first : goal.returns-clause-first
returns-clause-first c = points-first c.args.points.now c.in_ok-c.field-0.now c.in_ok-c.ensures.value
