-- Each cluster stands where the one before it ends, and takes the status after its last code point.
use Rattle.std.proofs.Common.{◌≡◌, ℕ, List, map, length, sym, ap, subst, ◌∙◌, arith}
use Rattle.std.proofs.lemmas.List.{length-append, length-map}
use Rattle.std.proofs.lemmas.List.Elements.{All-same}
use Rattle.std.proofs.lemmas.Str.{encodes-chars}
use Rattle.std.specs.List.{All, concat, flat_map}
use Rattle.std.specs.Prelude.{encode_utf8_all}
use Rattle.std.specs.Str.{IsUtf8}
use Rattle.unicode_tables.specs.Word.{word_of}
use Rattle.paragraphs.specs.Text.{code_points}
use Rattle.line_break.specs.declared.cluster.Cluster.{Cluster}
use Rattle.line_break.specs.declared.measure.Measure.{Measure}
use Rattle.line_break.specs.Runs.{are_longest, columns_of, sizes_of, spans_of}
use Rattle.line_break.specs.LineClusters.{line_clusters}
use Rattle.line_break.specs.Reached.{IsAt, breaks_in}
use Rattle.line_break.specs.Statuses.{breaks}
use Rattle.line_break.proofs.Joined.{HasSome}
use Rattle.line_break.proofs.LastStatus.{must-end}
use Rattle.line_break.proofs.Marking.{breaks-of, words-from}
use Rattle.line_break.proofs.Measuring.{columns_of-two, length-breaks, line_clusters-end, measured-is}
use Rattle.line_break.proofs.Measuring.{cluster-some as points-some, cluster-fits as points-within}
use Rattle.line_break.proofs.Offering.{breaks-all}
use Rattle.line_break.proofs.Outlining.{IsUtf8-concat, cluster-fits, cluster-points, spans-end, sizes-end}
use Rattle.line_break.proofs.Reaching.{IsAt-start, IsAt-on, few-columns, points-ahead, within-points}
use Rattle.line_break.proofs.outline.outline_into.Goals as goal

-- a text is that of its code points
same-text : (text points : List ℕ) (left : List (List ℕ)) → points ≡ code_points text → All IsUtf8 left → concat left ≡ text → text ≡ encode_utf8_all points
same-text text points left all u joined = sym (encodes-chars text (subst IsUtf8 joined (IsUtf8-concat left u))) ∙ ap encode_utf8_all (sym all)

pub loop-bytes-init : goal.loop-bytes-init
loop-bytes-init c =
    let text = c.args.para.now.text in
    let given = c.clusters-clusters.ensures in
    let u = subst IsUtf8 given.joined (IsUtf8-concat c.clusters-clusters.result given.utf8) in
    IsAt-start c.args.tables.now text _ _ _ c.empty.result c.before_all.result given.clusters given.utf8 given.some given.joined
    (c.cluster_places.ensures.some text u) (c.cluster_places.ensures.sum text u) c.in_ok-begin.ensures.runs c.in_ok-begin.ensures.opportunities c.empty.ensures c.before_all.ensures

pub read_next-requires-clause-some : goal.read_next-requires-clause-some
read_next-requires-clause-some c = c.loop-bytes.invariant.outlined.some

pub read_next-requires-clause-few : goal.read_next-requires-clause-few
read_next-requires-clause-few c =
    let all = c.loop-bytes.invariant.outlined.bytes in
    omega (arith, c.requires.size)

pub read_next-requires-clause-points : goal.read_next-requires-clause-points
read_next-requires-clause-points c = points-ahead _ _ _ _ _ _ c.loop-bytes.invariant c.args.points.now c.requires.points

pub read_next-requires-clause-words : goal.read_next-requires-clause-words
read_next-requires-clause-words c = words-from c.args.tables.now c.args.points.now c.args.words.now c.loop-bytes.reached.place c.requires.words

pub slice_bounds-read_next-count : goal.slice_bounds-read_next-count
slice_bounds-read_next-count c =
    let within = within-points _ _ _ _ _ _ c.loop-bytes.invariant in
    let all = ap length c.requires.points in
    omega arith

pub slice_bounds-read_next-start : goal.slice_bounds-read_next-start
slice_bounds-read_next-start c =
    let within = within-points _ _ _ _ _ _ c.loop-bytes.invariant in
    let all = ap length c.requires.points in
    omega arith

pub slice_bounds-read_next-count-in-loop-bytes : goal.slice_bounds-read_next-count-in-loop-bytes
slice_bounds-read_next-count-in-loop-bytes c =
    let within = within-points _ _ _ _ _ _ c.loop-bytes.invariant in
    let all = ap length c.requires.points in
    let words = ap length c.requires.words ∙ length-map c.args.points.now (word_of c.args.tables.now) in
    omega arith

pub slice_bounds-read_next-start-in-loop-bytes : goal.slice_bounds-read_next-start-in-loop-bytes
slice_bounds-read_next-start-in-loop-bytes c =
    let within = within-points _ _ _ _ _ _ c.loop-bytes.invariant in
    let all = ap length c.requires.points in
    let words = ap length c.requires.words ∙ length-map c.args.points.now (word_of c.args.tables.now) in
    omega arith

pub overflow_add-reached : goal.overflow_add-reached
overflow_add-reached c =
    let at = c.loop-bytes.invariant in
    let next = c.in-Some.ensures.next in
    let fits = cluster-fits _ _ _ _ _ _ at.outlined next.cluster _ next.taken in
    let few = cluster-points _ _ _ _ _ _ at.outlined next.cluster _ next.taken in
    let size = ap (λ (x : Measure). x.size) next.measured in
    let so_far = at.outlined.places in
    let all = c.requires.size in
    omega arith

pub overflow_sub-reached : goal.overflow_sub-reached
overflow_sub-reached c =
    let next = c.in-Some.ensures.next in
    let some = points-some _ _ _ _ _ c.loop-bytes.invariant.measured next.cluster _ next.taken in
    let size = ap (λ (x : Measure). x.size) next.measured in
    omega arith

pub index-requires : goal.index-requires
index-requires c =
    let t = c.args.tables.now in
    let p = c.args.para.now.text in
    let at = c.loop-bytes.invariant in
    let next = c.in-Some.ensures.next in
    let fits = points-within _ _ _ _ _ at.measured next.cluster _ next.taken in
    let some = points-some _ _ _ _ _ at.measured next.cluster _ next.taken in
    let size = ap (λ (x : Measure). x.size) next.measured in
    let all = ap length (breaks-of t p c.args.points.now c.args.words.now _ c.requires.points c.requires.words c.in_ok-statuses_into.ensures) in
    omega arith

pub put-requires-clause-some : goal.put-requires-clause-some
put-requires-clause-some c =
    let next = c.in-Some.ensures.next in
    let some = points-some _ _ _ _ _ c.loop-bytes.invariant.measured next.cluster _ next.taken in
    let size = ap (λ (x : Measure). x.size) next.measured in
    omega arith

pub put-requires-clause-columns : goal.put-requires-clause-columns
put-requires-clause-columns c =
    let at = c.loop-bytes.invariant in
    let few = few-columns _ _ _ _ _ _ at in
    let all = at.outlined.bytes in
    let next = c.in-Some.ensures.next in
    let columns = ap (λ (x : Measure). x.columns) next.measured in
    let two = columns_of-two c.args.tables.now (code_points next.cluster) in
    omega (arith, c.requires.size)

pub put_plain-requires-clause-size : goal.put_plain-requires-clause-size
put_plain-requires-clause-size c =
    let given = c.clusters-clusters.ensures in
    let same = ap length (same-text _ _ _ c.requires.points given.utf8 given.joined) in
    omega (arith, c.requires.size)

pub put_plain-requires-clause-points : goal.put_plain-requires-clause-points
put_plain-requires-clause-points c =
    let given = c.clusters-clusters.ensures in
    c.requires.points ∙ ap code_points (same-text _ _ _ c.requires.points given.utf8 given.joined)

pub put_plain-requires-clause-statuses : goal.put_plain-requires-clause-statuses
put_plain-requires-clause-statuses c =
    let t = c.args.tables.now in
    let p = c.args.para.now.text in
    let given = c.clusters-clusters.ensures in
    c.deref.ensures.value ∙ breaks-of t p c.args.points.now c.args.words.now _ c.requires.points c.requires.words c.in_ok-statuses_into.ensures
    ∙ ap (breaks t) (same-text _ _ _ c.requires.points given.utf8 given.joined)

pub put_plain-requires-clause-at : goal.put_plain-requires-clause-at
put_plain-requires-clause-at c =
    let t = c.args.tables.now in
    let p = c.args.para.now.text in
    let given = c.clusters-clusters.ensures in
    let at = c.loop-bytes.invariant in
    let next = c.in-Some.ensures.next in
    let here = c.read_next.new.self in
    let fits = points-within _ _ _ _ _ at.measured next.cluster _ next.taken in
    let some = points-some _ _ _ _ _ at.measured next.cluster _ next.taken in
    let size = ap (λ (x : Measure). x.size) next.measured in
    let columns = ap (λ (x : Measure). x.columns) next.measured in
    let is_space = ap (λ (x : Measure). x.is_space) next.measured in
    let all = ap (λ (cs : List (List ℕ)). length (concat cs)) next.taken in
    let len : c.in-Some.bytes ≡ length next.cluster = omega (arith, all, c.in-Some.ensures.bytes, length-append next.cluster (concat c.read_next.new.clusters)) in
    let own =
    measured-is t (code_points next.cluster) c.statuses_into.new.after.items (breaks t p) c.loop-bytes.reached.place here.size
    here.columns here.is_space c.index.result.now (breaks-of t p c.args.points.now c.args.words.now _ c.requires.points c.requires.words c.in_ok-statuses_into.ensures) size some fits columns is_space c.index.ensures in
    subst (λ (text : List ℕ). IsAt t text c.read_next.new.clusters c.put.new.outline.runs.items c.put.new.outline.opportunities.items c.put.new.self)
    (same-text _ _ _ c.requires.points given.utf8 given.joined)
    (IsAt-on t p _ _ _ _ at next.cluster _ next.taken c.in-Some.bytes here.size len size _ own _ _ c.put.new.self
    c.in_ok-put.ensures.runs c.in_ok-put.ensures.some c.in_ok-put.ensures.last c.in_ok-put.ensures.end c.in_ok-put.ensures.opportunities
    c.in_ok-put.ensures.byte c.in_ok-put.ensures.place)

pub loop-bytes-smaller : goal.loop-bytes-smaller
loop-bytes-smaller c =
    let next = c.in-Some.ensures.next in
    let fits = points-within _ _ _ _ _ c.loop-bytes.invariant.measured next.cluster _ next.taken in
    let some = points-some _ _ _ _ _ c.loop-bytes.invariant.measured next.cluster _ next.taken in
    let size = ap (λ (x : Measure). x.size) next.measured in
    let all = ap length c.requires.points in
    let same = length-breaks c.args.tables.now c.args.para.now.text in
    let put = c.in_ok-put.ensures.place in
    let on = c.in_ok-put_plain.ensures.on in
    omega arith

pub loop-bytes-preserved : goal.loop-bytes-preserved
loop-bytes-preserved c =
    let given = c.clusters-clusters.ensures in
    subst (λ (text : List ℕ). IsAt c.args.tables.now text c.put_plain.new.clusters c.put_plain.new.outline.runs.items c.put_plain.new.outline.opportunities.items c.put_plain.new.self)
    (sym (same-text _ _ _ c.requires.points given.utf8 given.joined)) c.in_ok-put_plain.ensures.at

pub returns-clause-spans : goal.returns-clause-spans
returns-clause-spans c = ap (flat_map spans_of) c.in_ok-close.ensures ∙ spans-end _ _ _ _ _ _ c.loop-bytes.invariant.outlined c.in_default.ensures.next

pub returns-clause-sizes : goal.returns-clause-sizes
returns-clause-sizes c = ap (flat_map sizes_of) c.in_ok-close.ensures ∙ sizes-end _ _ _ _ _ _ c.loop-bytes.invariant.outlined c.in_default.ensures.next

pub returns-clause-columns : goal.returns-clause-columns
returns-clause-columns c =
    ap (flat_map columns_of) c.in_ok-close.ensures ∙ c.loop-bytes.invariant.gathered.columns
    ∙ ap (map (λ (x : Cluster). x.columns))
    (line_clusters-end c.args.tables.now c.args.para.now.text _ _ c.loop-bytes.reached.place c.loop-bytes.invariant.measured c.in_default.ensures.next)

pub returns-clause-some : goal.returns-clause-some
returns-clause-some c = All-same HasSome _ _ c.in_ok-close.ensures c.loop-bytes.invariant.gathered.some

pub returns-clause-longest : goal.returns-clause-longest
returns-clause-longest c = ap are_longest c.in_ok-close.ensures ∙ c.loop-bytes.invariant.gathered.longest

pub returns-clause-opportunities : goal.returns-clause-opportunities
returns-clause-opportunities c =
    let t = c.args.tables.now in
    let p = c.args.para.now.text in
    let given = c.clusters-clusters.ensures in
    let u = subst IsUtf8 given.joined (IsUtf8-concat c.clusters-clusters.result given.utf8) in
    c.loop-bytes.invariant.offered
    ∙ ap breaks_in (line_clusters-end t p _ _ c.loop-bytes.reached.place c.loop-bytes.invariant.measured c.in_default.ensures.next)
    ∙ breaks-all (line_clusters t p) (must-end t p (c.cluster_places.ensures.some p u) (c.cluster_places.ensures.sum p u))
