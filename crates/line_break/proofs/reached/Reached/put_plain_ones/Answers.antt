-- A plain code point before a plain one is a cluster.
use Rattle.std.proofs.Common.{◌≡◌, ◌+◌, ◌<◌, [], ◌∷◌, map, length, drop, get_or, sym, ap, ◌∙◌, arith}
use Rattle.std.proofs.lemmas.Simd.{map-map}
use Rattle.std.proofs.lemmas.Str.{length-encode}
use Rattle.std.specs.Char.{len_utf8}
use Rattle.std.specs.Prelude.{encode_utf8, encode_utf8_all}
use Rattle.paragraphs.specs.Clusters.{is_plain}
use Rattle.unicode_tables.specs.Word.{word_of}
use Rattle.unicode_tables.specs.declared.word.Word.{Word}
use Rattle.line_break.specs.LineClusters.{measured}
use Rattle.line_break.specs.Statuses.{breaks}
use Rattle.line_break.proofs.Measuring.{columns_of-two, length-breaks}
use Rattle.line_break.proofs.PlainPlaces.{at-ahead, plain-within, same-at, word-at}
use Rattle.line_break.proofs.Reaching.{IsAt-on, few-columns, measured-one, point-alone}
use Rattle.line_break.proofs.Spaces.{is_space-alone}
use Rattle.line_break.proofs.reached.Reached.put_plain_ones.Goals as goal

pub next_plain-bytes-requires-clause-plain : goal.next_plain-bytes-requires-clause-plain
next_plain-bytes-requires-clause-plain c =
    let place = c.loop-place.reached.place in
    let here : place + 0 ≡ place = omega arith in
    ap is_plain (at-ahead place 0 c.args.points.now 0 ∙ ap (λ i. get_or c.args.points.now i 0) here) ∙ c.loop-place.invariant.plain

pub next_plain-bytes-requires-clause-next : goal.next_plain-bytes-requires-clause-next
next_plain-bytes-requires-clause-next c =
    ap is_plain (at-ahead c.loop-place.reached.place 1 c.args.points.now 0)
    ∙ c.is_plain_at.ensures c.loop-place-test.true c.args.points.now
    (ap (map (λ (w : Word). w.is_plain)) c.requires.words ∙ map-map (λ (w : Word). w.is_plain) (word_of c.args.tables.now) c.args.points.now)

pub columns_of_one-requires : goal.columns_of_one-requires
columns_of_one-requires c =
    let place = c.loop-place.reached.place in
    let within = plain-within c.args.points.now place c.loop-place.invariant.plain in
    word-at c.args.tables.now c.args.points.now c.args.words.now place c.index-points-place.result _ c.requires.words within (c.index-points-place.is ∙ same-at c.args.points.now place _ 0 within)

pub bounds-statuses-place : goal.bounds-statuses-place
bounds-statuses-place c =
    let within = plain-within c.args.points.now c.loop-place.reached.place c.loop-place.invariant.plain in
    let each = ap length c.requires.statuses in
    let all = ap length c.requires.points in
    let same = length-breaks c.args.tables.now (encode_utf8_all c.args.points.now) in
    omega arith

pub put-requires-clause-columns : goal.put-requires-clause-columns
put-requires-clause-columns c =
    let at = c.loop-place.invariant.at in
    let few = few-columns _ _ _ _ _ _ at in
    let all = at.outlined.bytes in
    let here = c.columns_of_one.ensures in
    let two = columns_of-two c.args.tables.now (c.index-points-place.result ∷ []) in
    omega (arith, c.requires.size)

pub loop-place-preserved : goal.loop-place-preserved
loop-place-preserved c =
    let t = c.args.tables.now in
    let text = encode_utf8_all c.args.points.now in
    let place = c.loop-place.reached.place in
    let at = c.loop-place.invariant.at in
    let point = c.index-points-place.result in
    let left = c.next_plain-bytes.new.self in
    let within = plain-within c.args.points.now place c.loop-place.invariant.plain in
    let all = ap length c.requires.points in
    let same = length-breaks t text in
    let is : point ≡ get_or c.args.points.now place 0 = c.index-points-place.is ∙ same-at c.args.points.now place _ 0 within in
    let here : place + 0 ≡ place = omega arith in
    let first = at-ahead place 0 c.args.points.now 0 ∙ ap (λ i. get_or c.args.points.now i 0) here ∙ sym is in
    let taken = c.next_plain-bytes.ensures.taken ∙ ap (λ x. encode_utf8 x ∷ left) first in
    let fits : place < length (breaks t text) = omega arith in
    let one = point-alone t text _ _ _ _ at point left taken in
    let word = word-at t c.args.points.now c.args.words.now place point _ c.requires.words within is in
    let own =
    measured-one t point c.args.statuses.now (breaks t text) place _ _ _ c.requires.statuses fits c.columns_of_one.ensures (is_space-alone t _ point word)
    ∙ ap (λ points. measured t points (drop place (breaks t text))) (sym one) in
    let next =
    c.is_plain_at.ensures c.loop-place-test.true c.args.points.now
    (ap (map (λ (w : Word). w.is_plain)) c.requires.words ∙ map-map (λ (w : Word). w.is_plain) (word_of t) c.args.points.now) in
    record {
      at =
          IsAt-on t text _ _ _ _ at (encode_utf8 point) left taken c.next_plain-bytes.result 1
          (c.next_plain-bytes.ensures.bytes ∙ ap len_utf8 first ∙ sym (length-encode point)) (sym (ap length one)) _ own _ _ c.put.new.self
          c.in_ok-put.ensures.runs c.in_ok-put.ensures.some c.in_ok-put.ensures.last c.in_ok-put.ensures.end c.in_ok-put.ensures.opportunities
          c.in_ok-put.ensures.byte c.in_ok-put.ensures.place;
      plain = ap (λ i. is_plain (get_or c.args.points.now i 0)) c.in_ok-put.ensures.place ∙ next;
      on = let so_far = c.loop-place.invariant.on in let more = c.in_ok-put.ensures.place in omega arith;
    }
