-- A plain character with marks, and the clusters after them.
use Rattle.std.proofs.Common.{◌≡◌, ◌+◌, ◌-◌, ◌*◌, ◌∙◌, drop, get_or, ap, sym, arith}
use Rattle.paragraphs.specs.Clusters.{clusters, is_plain}
use Rattle.paragraphs.proofs.Alone.{points-first, points-some, points-of_clusters}
use Rattle.paragraphs.proofs.Marked.{words-length, word-seen, marked-from, marked-bytes, IsCharBoundary-past_marks, points-marked, clusters-past_marks}
use Rattle.paragraphs.proofs.Slices.{drop-on}
use Rattle.paragraphs.proofs.cluster.Clusters.next_marked.Goals as goal

pub range_from-rest-requires : goal.range_from-rest-requires
range_from-rest-requires c = λ _. c.self.invariant

pub bounds-words-0 : goal.bounds-words-0
bounds-words-0 c =
    omega (arith, words-length c.args.points.now c.args.words.now c.requires.words, points-some c.args.points.now c.in_ok-c.field-0.now c.in_ok-c.ensures.value)

pub marks_end-requires-clause-some : goal.marks_end-requires-clause-some
marks_end-requires-clause-some c = points-some c.args.points.now c.in_ok-c.field-0.now c.in_ok-c.ensures.value

pub plain_len-requires : goal.plain_len-requires
plain_len-requires c =
    let points = c.args.points.now in
    let here = points-some points c.in_ok-c.field-0.now c.in_ok-c.ensures.value in
    let told = c.in_ok-size.ensures in
    let m = marked-from points c.args.words.now c.requires.words c.in_ok-size.size _ here c.if-not-words.false told.some told.within told.marks told.behind in
    ap is_plain (sym (ap (λ ps. get_or ps 0 0) (points-first points c.in_ok-c.field-0.now c.in_ok-c.ensures.value))) ∙ m.plain

pub invariant_of-self : goal.invariant_of-self
invariant_of-self c =
    let inside = c.self.inside in
    let rest = c.range_from-rest.result.now in
    let points = c.args.points.now in
    let first : c.in_ok-c.field-0.now ≡ get_or points 0 0 = sym (ap (λ ps. get_or ps 0 0) (points-first points c.in_ok-c.field-0.now c.in_ok-c.ensures.value)) in
    let all = points-of_clusters rest points _ c.range_from-rest.utf8 (sym c.self.view_is ∙ ap clusters (sym c.range_from-rest.ensures.value)) c.requires.points in
    let here = points-some points c.in_ok-c.field-0.now c.in_ok-c.ensures.value in
    let told = c.in_ok-size.ensures in
    let m = marked-from points c.args.words.now c.requires.words c.in_ok-size.size _ here c.if-not-words.false told.some told.within told.marks told.behind in
    IsCharBoundary-past_marks inside.text.now inside.byte rest points c.in_ok-size.size c.in_ok-c.field-0.now c.plain_len.result c.self.invariant.0 c.range_from-rest.ensures.value
    c.range_from-rest.utf8 all m first c.plain_len.ensures

pub overflow_add-self-2 : goal.overflow_add-self-2
overflow_add-self-2 c =
    let inside = c.self.inside in
    let rest = c.range_from-rest.result.now in
    let points = c.args.points.now in
    let first : c.in_ok-c.field-0.now ≡ get_or points 0 0 = sym (ap (λ ps. get_or ps 0 0) (points-first points c.in_ok-c.field-0.now c.in_ok-c.ensures.value)) in
    let all = points-of_clusters rest points _ c.range_from-rest.utf8 (sym c.self.view_is ∙ ap clusters (sym c.range_from-rest.ensures.value)) c.requires.points in
    let here = points-some points c.in_ok-c.field-0.now c.in_ok-c.ensures.value in
    let told = c.in_ok-size.ensures in
    let m = marked-from points c.args.words.now c.requires.words c.in_ok-size.size _ here c.if-not-words.false told.some told.within told.marks told.behind in
    let within =
    IsCharBoundary-past_marks inside.text.now inside.byte rest points c.in_ok-size.size c.in_ok-c.field-0.now c.plain_len.result c.self.invariant.0 c.range_from-rest.ensures.value
    c.range_from-rest.utf8 all m first c.plain_len.ensures in
    omega (arith, within.0)

pub returns-clause-taken : goal.returns-clause-taken
returns-clause-taken c =
    let inside = c.self.inside in
    let rest = c.range_from-rest.result.now in
    let u = c.range_from-rest.utf8 in
    let value = c.range_from-rest.ensures.value in
    let points = c.args.points.now in
    let n = c.in_ok-size.size in
    let left = sym c.self.view_is ∙ ap clusters (sym value) in
    let all = points-of_clusters rest points _ u left c.requires.points in
    let here = points-some points c.in_ok-c.field-0.now c.in_ok-c.ensures.value in
    let told = c.in_ok-size.ensures in
    let m = marked-from points c.args.words.now c.requires.words c.in_ok-size.size _ here c.if-not-words.false told.some told.within told.marks told.behind in
    let first : c.in_ok-c.field-0.now ≡ get_or points 0 0 = sym (ap (λ ps. get_or ps 0 0) (points-first points c.in_ok-c.field-0.now c.in_ok-c.ensures.value)) in
    let end = c.plain_len.result + (n - 1) * 2 in
    left
    ∙ clusters-past_marks rest points n u all m end (drop (inside.byte + end) inside.text.now)
    (ap (λ l. l + (n - 1) * 2) c.plain_len.ensures ∙ marked-bytes rest points n u all m c.in_ok-c.field-0.now first)
    (drop-on inside.text.now inside.byte rest end value)

pub returns-clause-points : goal.returns-clause-points
returns-clause-points c =
    let rest = c.range_from-rest.result.now in
    let points = c.args.points.now in
    let here = points-some points c.in_ok-c.field-0.now c.in_ok-c.ensures.value in
    let told = c.in_ok-size.ensures in
    let m = marked-from points c.args.words.now c.requires.words c.in_ok-size.size _ here c.if-not-words.false told.some told.within told.marks told.behind in
    points-marked rest points c.in_ok-size.size c.range_from-rest.utf8
    (points-of_clusters rest points _ c.range_from-rest.utf8 (sym c.self.view_is ∙ ap clusters (sym c.range_from-rest.ensures.value)) c.requires.points) m

pub returns-clause-seen : goal.returns-clause-seen
returns-clause-seen c =
    let points = c.args.points.now in
    word-seen points c.args.words.now c.requires.words _ (points-some points c.in_ok-c.field-0.now c.in_ok-c.ensures.value) c.if-words-eq0.false
