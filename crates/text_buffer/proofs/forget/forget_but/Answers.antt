-- One row more is done.
use Rattle.std.proofs.Common.{◌+◌, ◌<◌, ◌≤◌, [], length, map, get_or, refl, sym, ap, subst, ◌∙◌, arith}
use Rattle.std.proofs.lemmas.List.{take_all}
use Rattle.std.proofs.Math.Seq.{map-set_same}
use Rattle.std.specs.List.{concat}
use Rattle.std.specs.Prelude.{slice_set}
use Rattle.text_buffer.specs.Buffers.{bytes_in}
use Rattle.text_buffer.specs.Pieces.{points_in, kept_of}
use Rattle.text_buffer.specs.Blocks.{rows_of, joined}
use Rattle.text_buffer.specs.Forgetting.{left_of}
use Rattle.text_buffer.proofs.Places.{length-rows, row-get, rows-set, bytes-row}
use Rattle.text_buffer.proofs.Founds.{texts-length}
use Rattle.text_buffer.proofs.Forgets.{AreSwept, rows-swept, same-at}
use Rattle.text_buffer.proofs.forget.forget_but.Goals as goal

pub loop-q-init : goal.loop-q-init
loop-q-init g c = record { swept = record { size = refl; before_is = refl; points = refl; kept = refl; back = refl }; rows = refl }

pub forget_but-requires-clause-few : goal.forget_but-requires-clause-few
forget_but-requires-clause-few g c =
    let old = c.args.blocks.now in
    let now = c.loop-q.blocks in
    let q = c.loop-q.q in
    let within : q < length old = omega (arith, c.loop-q-test.true, c.loop-q.auto.blocks) in
    let here : q < length now = omega (arith, c.loop-q-test.true, c.loop-q.auto.blocks) in
    let row = sym (row-get now q c.index-blocks-q.result here) ∙ same-at (rows_of now) (rows_of old) q [] c.loop-q.invariant.swept.back in
    omega (arith, ap (λ r. bytes_in (concat (points_in r))) row, bytes-row old q within, c.requires.texts.bytes)

pub forget_but-requires-clause-first : goal.forget_but-requires-clause-first
forget_but-requires-clause-first g c =
    let old = c.args.blocks.now in
    let q = c.loop-q.q in
    let within : q < length old = omega (arith, c.loop-q-test.true, c.loop-q.auto.blocks) in
    omega (arith, c.loop-q.invariant.swept.before_is, texts-length old q within, c.requires.texts.paragraphs)

pub overflow_add-before : goal.overflow_add-before
overflow_add-before g c =
    let old = c.args.blocks.now in
    let now = c.loop-q.blocks in
    let q = c.loop-q.q in
    let s = c.loop-q.invariant.swept in
    let within : q < length old = omega (arith, c.loop-q-test.true, c.loop-q.auto.blocks) in
    let row = same-at (rows_of now) (rows_of old) q [] s.back in
    omega (arith, s.before_is, ap length row, texts-length old q within, c.count_in-count.ensures, c.requires.texts.paragraphs)

pub loop-q-preserved : goal.loop-q-preserved
loop-q-preserved g c =
    let old = c.args.blocks.now in
    let now = c.loop-q.blocks in
    let q = c.loop-q.q in
    let new = c.forget_but.new.self in
    let e = c.forget_but.ensures in
    let within : q < length (rows_of old) = omega (arith, c.loop-q-test.true, c.loop-q.auto.blocks, length-rows old) in
    let here : q < length now = omega (arith, c.loop-q-test.true, c.loop-q.auto.blocks) in
    let row = sym (row-get now q c.index-blocks-q.result here) in
    let points = e.points ∙ ap points_in row in
    let kept = e.kept ∙ ap (λ r. left_of c.args.spared c.loop-q.before (kept_of r)) row in
    let next = rows-swept c.args.spared (rows_of old) (rows_of now) q c.loop-q.before c.loop-q.invariant.swept new.pieces.items within points kept in
    record {
      swept = subst (λ b. AreSwept c.args.spared (rows_of old) (rows_of (slice_set now q new)) (q + 1) (c.loop-q.before + b)) (sym c.count_in-count.ensures)
          (subst (λ r. AreSwept c.args.spared (rows_of old) r (q + 1) (c.loop-q.before + length (get_or (rows_of now) q []))) (sym (rows-set now q new)) next);
      rows = ap (map points_in) (rows-set now q new) ∙ map-set_same points_in (rows_of now) q new.pieces.items [] points ∙ c.loop-q.invariant.rows;
    }

pub returns-clause-texts : goal.returns-clause-texts
returns-clause-texts g c =
    let old = rows_of c.args.blocks.now in
    let now = rows_of c.loop-q.blocks in
    let q = c.loop-q.q in
    let s = c.loop-q.invariant.swept in
    let few : length now ≤ q = omega (arith, s.size, length-rows c.loop-q.blocks, c.loop-q.auto.blocks, c.loop-q-test.false) in
    sym (ap (λ r. points_in (joined r)) (take_all q now few)) ∙ s.points ∙ ap (λ r. points_in (joined r)) (take_all q old (omega (arith, few, s.size)))

pub returns-clause-kept : goal.returns-clause-kept
returns-clause-kept g c =
    let old = rows_of c.args.blocks.now in
    let now = rows_of c.loop-q.blocks in
    let q = c.loop-q.q in
    let s = c.loop-q.invariant.swept in
    let few : length now ≤ q = omega (arith, s.size, length-rows c.loop-q.blocks, c.loop-q.auto.blocks, c.loop-q-test.false) in
    sym (ap (λ r. kept_of (joined r)) (take_all q now few)) ∙ s.kept ∙ ap (λ r. left_of c.args.spared 0 (kept_of (joined r))) (take_all q old (omega (arith, few, s.size)))
