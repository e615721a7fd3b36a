-- Each row adds its own.
use Rattle.std.proofs.Common.{◌+◌, ◌<◌, ◌∷◌, ◌++◌, [], length, take, refl, sym, ap, subst, ◌∙◌, arith}
use Rattle.std.proofs.lemmas.List.{take_more, take_all, length-take-le}
use Rattle.std.proofs.lemmas.List.Sums.{sum_by_push}
use Rattle.live_document.specs.Keeping.{row_weight, rows_weight, Weigh}
use Rattle.live_document.proofs.paragraph_rows.ParagraphRows.of.Goals as goal

pub loop-row-init : goal.loop-row-init
loop-row-init c = record { is = refl; few = omega arith }

pub overflow_add-weight : goal.overflow_add-weight
overflow_add-weight c =
    let rows = c.deref-row-items.result.now in
    let i = c.loop-row.row-index in
    let many = length-take-le i rows (omega (arith, c.loop-row-test.true)) in
    omega (arith, many, c.loop-row-test.true, ap length c.deref-row-items.ensures.value, c.loop-row.invariant.few, c.run_count.ensures.most, c.requires)

pub loop-row-preserved : goal.loop-row-preserved
loop-row-preserved c =
    let rows = c.deref-row-items.result.now in
    let i = c.loop-row.row-index in
    let lt : i < length rows = omega (arith, c.loop-row-test.true) in
    let more = ap rows_weight (take_more rows i c.row-item.result lt ∙ ap (λ x. take i rows ++ x ∷ []) (sym c.row-item.is)) ∙ sum_by_push row_weight (take i rows) c.row-item.result in
    let many = length-take-le i rows (omega arith) in
    let next = length-take-le (i + 1) rows (omega arith) in
    record {
      is = omega (arith, more, c.loop-row.invariant.is, c.run_count.ensures.count);
      few = omega (arith, many, next, c.loop-row.invariant.few, c.run_count.ensures.most);
    }

pub invariant_of-result : goal.invariant_of-result
invariant_of-result c =
    let all = take_all c.loop-row.row-index c.deref-row-items.result.now (omega (arith, c.loop-row-test.false)) in
    subst (λ rows. Weigh rows c.loop-row.weight) (all ∙ c.deref-row-items.ensures.value) c.loop-row.invariant
