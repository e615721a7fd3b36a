-- The row is not among those of the paragraph, so it stands behind them.
use Rattle.std.proofs.Common.{◌≡◌, ◌+◌, ◌-◌, ℕ, cond, length, drop, refl, sym, ap, ap₂, ◌∙◌, arith}
use Rattle.live_document.specs.Keeping.{rows_at}
use Rattle.live_document.specs.Showing.{rows_from}
use Rattle.live_document.proofs.Spots.{spot-within, spot-next}
use Rattle.live_document.proofs.reading.go_to_row.Goals as goal

pub loop-count-init : goal.loop-count-init
loop-count-init c = record {
  paragraphs = refl;
  there = spot-within c.args.cursor.now.paragraphs c.args.cursor.now.number c.args.row c.requires;
  count_is = ap length c.rows_under-count.ensures;
  inside = c.requires;
  same = refl;
}

pub loop-count-preserved : goal.loop-count-preserved
loop-count-preserved c =
    let h = c.loop-count.invariant in
    let kept = c.loop-count.cursor.paragraphs in
    let n = c.loop-count.cursor.number in
    let row = c.loop-count.row in
    let next = spot-next kept n row h.there (omega (arith, h.count_is)) h.inside in
    let e = c.next.ensures in
    let number : c.next.new.self.number ≡ n + 1 = e.number ∙ ap (λ b. cond {A = ℕ} b (n + 1) n) (e.moved.1 next.there) in
    let rows = ap₂ rows_from e.paragraphs number in
    let size = ap length rows in
    let count = ap length e.paragraphs in
    let less : row - length (rows_at kept n) ≡ row - c.loop-count.count = omega (arith, h.count_is) in
    record {
      paragraphs = e.paragraphs ∙ h.paragraphs;
      there = omega (arith, number, count, next.there);
      count_is = ap length c.rows_under-count-in-loop-count.ensures;
      inside = omega (arith, size, next.inside, h.count_is);
      same = ap (drop (row - c.loop-count.count)) rows ∙ ap (λ m. drop m (rows_from kept (n + 1))) (sym less) ∙ next.same ∙ h.same;
    }

pub loop-count-smaller : goal.loop-count-smaller
loop-count-smaller c =
    let h = c.loop-count.invariant in
    let kept = c.loop-count.cursor.paragraphs in
    let n = c.loop-count.cursor.number in
    let next = spot-next kept n c.loop-count.row h.there (omega (arith, h.count_is)) h.inside in
    let e = c.next.ensures in
    let number : c.next.new.self.number ≡ n + 1 = e.number ∙ ap (λ b. cond {A = ℕ} b (n + 1) n) (e.moved.1 next.there) in
    omega (arith, number, ap length e.paragraphs, next.there)
